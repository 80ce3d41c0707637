-- What document 01 says of the helpers beside their definitions: where a NaN leads. Assumes nothing.
use mathlib.Core.Path.{◌≡◌}
use lib.Ieee.{nan}
use Rattle.point.specs.declared.Segment.{Segment}
use Rattle.point.proofs.Laws.{le_nan}
use Rattle.std.specs.Prelude.{None}
use Rattle.helpers.specs.Helpers.{intersection_time_of, crosses_of, line_intersect_segment_of}

-- 01, Geometry: "none if the time is NaN"
pub crossing_nan : (line segment : Segment) → intersection_time_of line segment ≡ nan → line_intersect_segment_of line segment ≡ None
unfolding line_intersect_segment_of crosses_of
crossing_nan line segment e = rw (e, le_nan)
