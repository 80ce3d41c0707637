-- Document 01, Geometry: the square root of an f32. `IsRoot` says what a root is, for whoever reads a promise; `root_of` is the one value that is
-- one, for whoever calls; proofs/Meaning joins the two. Both speak of whole numbers: `units_of x` is x in units of 2^-149, and the root of X units
-- is the root of X * 2^149, in units again. Assumes nothing.
use Rattle.std.specs.Prelude.{ℕ, zero, suc, ◌+◌, ◌-◌, ◌*◌, ◌/◌, ◌^◌, ◌<◌, ◌≡◌, Bool, true, false, cond, T, leb, eqb, Float}
use Rattle.std.specs.Float.{nan, inf, fin, binary32}
use Rattle.std.specs.Float.Ieee.{prec, low, fits, odd, size}
use Rattle.float.specs.Units.{units_of}

-- ---- what a root is

-- an f32 that is finite and not negative: one of the numbers among which the nearest is sought
abbrev pub counts : Float → Bool
counts nan = false
counts (inf s) = false
counts (fin true m e) = false
counts (fin false m e) = fits binary32 (fin false m e)

-- x in the units in which a square of units comes: 2^-298
abbrev pub square_units : Float → ℕ
square_units x = units_of x * 2 ^ 149

-- "For positive finite input, the squares of the midpoints beside the answer enclose the input, as whole numbers." Said of every other number y
-- and not of the two beside the answer only: the midpoint of y and r, squared, lies on y's side of x. Twice the midpoint is `units_of y + units_of r`,
-- so the square is four times too large, and so is what it is held against.
pub record Nearest (x r : Float) : Type 0 where
  pub held : T (counts r)
  pub below : (y : Float) → T (counts y) → units_of y < units_of r → (units_of y + units_of r) * (units_of y + units_of r) < 4 * square_units x
  pub above : (y : Float) → T (counts y) → units_of r < units_of y → 4 * square_units x < (units_of y + units_of r) * (units_of y + units_of r)

-- "Square root: IEEE 754, nearest. .. Zero keeps its sign; below zero NaN." Infinity and NaN stay what they are (IEEE 754-2019, 5.4.1 and 6.1).
abbrev pub IsRoot : Float → Float → Type 0
IsRoot nan r = r ≡ nan
IsRoot (inf true) r = r ≡ nan
IsRoot (inf false) r = r ≡ inf false
IsRoot (fin s zero e) r = r ≡ fin s zero e
IsRoot (fin true (suc m) e) r = r ≡ nan
IsRoot (fin false (suc m) e) r = Nearest (fin false (suc m) e) r

-- ---- the root, worked out

-- the largest whole number whose square is at most n, for an n below 4 ^ d: its d binary digits, the leading ones first
unfoldable pub whole_root : ℕ → ℕ → ℕ
whole_root zero n = 0
whole_root (suc d) n = let r = 2 * whole_root d (n / 4) in cond (leb ((r + 1) * (r + 1)) n) (r + 1) r

-- the whole number nearest to the root of an n below 2 ^ 48: half of the root of 4 n, and a half more, cut
unfoldable pub nearest_root : ℕ → ℕ
nearest_root n = (whole_root 25 (4 * n) + 1) / 2

-- how many of the digits that n's root has are beyond the 24 that an f32 keeps
unfoldable pub dropped : ℕ → ℕ
dropped n = (size n + 1) / 2 - prec binary32

-- the root of n > 0 square units: its 24 leading digits, the last one rounded
unfoldable pub rounded_root : ℕ → Float
rounded_root n = odd (prec binary32) false (nearest_root (n / 4 ^ dropped n)) (dropped n) (low binary32)

unfoldable pub root_of : Float → Float
root_of nan = nan
root_of (inf s) = cond s nan (inf s)
root_of (fin s m e) = cond (eqb m 0) (fin s m e) (cond s nan (rounded_root (square_units (fin s m e))))
