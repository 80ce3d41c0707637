-- Every finite f32 as a whole number of 2 ^ -149, the smallest positive f32. Definitions only. Assumes nothing.
use Rattle.std.specs.Prelude.{ℕ, ◌*◌, ◌/◌, ◌^◌, Float}
use Rattle.std.specs.Float.{nan, inf, fin, binary32}
use Rattle.std.specs.Float.Ieee.{low, up, down}

-- How many times 2 ^ -149 a finite f32 is, its sign aside. `fin s m e` is the number m * 2 ^ e, and the kit writes 2 ^ e as the fraction up e / down e.
-- For an f32 down e divides 2 ^ 149, so the division leaves nothing over. NaN and the infinities are no number of units: 0 stands for that.
unfoldable pub units_of : Float → ℕ
units_of nan = 0
units_of (inf s) = 0
units_of (fin s m e) = m * up e * 2 ^ low binary32 / down e
