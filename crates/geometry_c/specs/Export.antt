-- The numbers of each answer, and what is written for it, where C calls the geometry. Rests on the definitions of `point` and `helpers`. Assumes nothing.
use Rattle.std.specs.Prelude.{ℕ, Option, Some, None, List, [], ◌∷◌}
use Rattle.std.specs.Float.{binary32}
use Rattle.std.specs.Float.Ieee.{to_bits}
use Rattle.point.specs.declared.Point.{Point}
use Rattle.point.specs.declared.EdgeSide.{EdgeSide}
use Rattle.point.specs.declared.EdgeSide.TheVariants.{Left, Right, Edge}

-- ---- numbers

unfoldable pub side_number : EdgeSide → ℕ
side_number Left = 0
side_number Right = 1
side_number Edge = 2

-- 1 for a point, 0 for none
unfoldable pub point_number : Option Point → ℕ
point_number (Some p) = 1
point_number None = 0

abbrev pub turn_number : Option Point → ℕ
turn_number turn = point_number turn

abbrev pub crossing_number : Option Point → ℕ
crossing_number crossing = point_number crossing

-- ---- what is written

-- a point is two bit patterns, x first
unfoldable pub point_bits : Point → List ℕ
point_bits p = to_bits binary32 p.x ∷ to_bits binary32 p.y ∷ []

-- the point, or what stood there
unfoldable pub point_written : Option Point → List ℕ → List ℕ
point_written (Some p) before = point_bits p
point_written None before = before

abbrev pub turn_written : Option Point → List ℕ → List ℕ
turn_written turn before = point_written turn before

abbrev pub crossing_written : Option Point → List ℕ → List ℕ
crossing_written crossing before = point_written crossing before
