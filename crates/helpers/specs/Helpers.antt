-- The functions of polyanya's src/helpers.rs as document 01 has them under "Geometry", each name before its use. Rests on the definitions of `point`.
-- Assumes nothing. Each definition is what the contract of the function of that name says, with `Of` behind it. A comment in quotes is 01's sentence,
-- any other the Rust's own line or words.
use Rattle.std.specs.Prelude.{Bool, cond, ◌&&◌, Option, Some, None, Float}
use Rattle.std.specs.Float.{binary32}
use Rattle.std.specs.Float.Ieee.{add, div, neg, lt, le}
use Rattle.point.specs.declared.Point.{Point}
use Rattle.point.specs.declared.Segment.{Segment}
use Rattle.point.specs.declared.EdgeSide.TheVariants.{Left, Right}
use Rattle.point.specs.Point.{zero, one, epsilon, minus_of, plus_of, times_of, same_of, ends_at_of, perp_dot_of, distance_of}
use Rattle.point.specs.Sides.{side_of, same_side_of, mirror_of}

-- ---- intersection

-- (line.0 - segment.0).perp_dot(local_line) / (local_line).perp_dot(segment.0 - segment.1)
unfoldable pub intersection_time_of : Segment → Segment → Float
intersection_time_of line segment =
    let local = minus_of line.0 line.1 in
    div binary32 (perp_dot_of (minus_of line.0 segment.0) local) (perp_dot_of local (minus_of segment.0 segment.1))

-- 01, Geometry: "line_intersect_segment answers a point or none: none if the time is NaN or outside −1e-4 to 1 + 1e-4;"
unfoldable pub crosses_of : Float → Bool
crosses_of time = le (neg epsilon) time && le time (add binary32 one epsilon)

-- "else the time clamped to 0..1 (−0.0 stays)"
unfoldable pub clamp_of : Float → Float
clamp_of x = cond (lt x zero) zero (cond (lt one x) one x)

-- "and segment.0 + time × (segment.1 − segment.0)."
unfoldable pub line_intersect_segment_of : Segment → Segment → Option Point
line_intersect_segment_of line segment =
    let time = intersection_time_of line segment in
    cond (crosses_of time) (Some (plus_of segment.0 (times_of (minus_of segment.1 segment.0) (clamp_of time)))) None

-- ---- heuristic and turning point

-- If the goal is on the same side of the interval with the root, then we mirror it.
unfoldable pub goal_beyond_of : Point → Point → Segment → Point
goal_beyond_of root goal interval = cond (same_side_of (side_of root interval) (side_of goal interval)) (mirror_of goal interval) goal

-- If the point is not in the estimated "line of sight", then the heuristic will be an approximated taut path length, otherwise it will be the exact distance
-- between the root and the goal. (A time below 0 misses the interval at its first end, one above 1 at its second; NaN misses neither.)
unfoldable pub heuristic_of : Point → Point → Segment → Float
heuristic_of root goal interval =
    let seen = goal_beyond_of root goal interval in
    let time = intersection_time_of (root, seen) interval in
    cond (ends_at_of interval root) (distance_of root seen)
    (cond (lt time zero) (add binary32 (distance_of root interval.0) (distance_of interval.0 seen))
    (cond (lt one time) (add binary32 (distance_of root interval.1) (distance_of interval.1 seen))
    (distance_of root seen)))

-- The point at which the path between the given root and goal should turn, if any
unfoldable pub turning_point_of : Point → Point → Segment → Option Point
turning_point_of root goal interval =
    let seen = goal_beyond_of root goal interval in
    cond (same_of root interval.0) None
    (cond (same_side_of (side_of seen (root, interval.0)) Right) (Some interval.0)
    (cond (same_side_of (side_of seen (root, interval.1)) Left) (Some interval.1)
    None))
