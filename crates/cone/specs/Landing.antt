-- Whether an interval's end lands on a vertex, as document 01 has it under "A permitted step". Rests on the definitions of `point`. Assumes nothing.
use Rattle.std.specs.Prelude.{Bool}
use Rattle.std.specs.Float.{binary32}
use Rattle.std.specs.Float.Ieee.{mul, lt}
use Rattle.point.specs.declared.Point.{Point}
use Rattle.point.specs.Point.{landing, distance_squared_of}

-- 01, A permitted step: "An interval end lands on a vertex when its squared distance to it is below 0.002 × 0.002 (the source also scales by distance;
-- that factor is not in our text)." The root, from which the source measures that distance, is not looked at.
unfoldable pub lands_on_of : Point → Point → Point → Bool
lands_on_of computed vertex root = lt (distance_squared_of computed vertex) (mul binary32 landing landing)
