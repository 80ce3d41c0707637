-- The clip to a cone, as document 01 has it under "Geometry", in the order of polyanya's `clip_to_cone` (src/instance.rs). Rests on the definitions of
-- `point`. Assumes nothing. Each definition is what the contract of the function of that name says, with `Of` behind it. A comment in quotes is 01's
-- sentence.
use Rattle.std.specs.Prelude.{Bool, cond, ◌&&◌, ◌||◌, Option, Some, None, Float}
use Rattle.std.specs.Float.{binary32}
use Rattle.std.specs.Float.Ieee.{add, sub, div, neg, lt}
use Rattle.point.specs.declared.Point.{Point}
use Rattle.point.specs.declared.Segment.{Segment}
use Rattle.point.specs.Point.{zero, one, slack, minus_of, plus_of, times_of, perp_dot_of, length_of}
use Rattle.cone.specs.declared.Ray.{Ray}
use Rattle.cone.specs.declared.Cone.{Cone}
use Rattle.cone.specs.declared.Part.{Part}

-- ---- the cone

-- cone.0 - root, or cone.1 - root, and its length
unfoldable pub ray_of : Point → Point → Ray
ray_of root end =
    let along = minus_of end root in
    record { along = along; length = length_of along }

-- the rays to the interval's right end and to its left end
unfoldable pub cone_of : Point → Segment → Cone
cone_of root interval = record { root = root; right = ray_of root interval.0; left = ray_of root interval.1 }

-- 01, Geometry: "Cone clip: either ray shorter than 0.01 gives the segment back;"
unfoldable pub has_short_ray_of : Cone → Bool
has_short_ray_of cone = lt cone.right.length slack || lt cone.left.length slack

-- "0.01 slack;"
-- right.perp_dot(point - root) / right_len + SLACK
unfoldable pub from_right_of : Cone → Point → Float
from_right_of cone p = add binary32 (div binary32 (perp_dot_of cone.right.along (minus_of p cone.root)) cone.right.length) slack

-- -left.perp_dot(point - root) / left_len + SLACK
unfoldable pub from_left_of : Cone → Point → Float
from_left_of cone p = add binary32 (div binary32 (neg (perp_dot_of cone.left.along (minus_of p cone.root))) cone.left.length) slack

-- ---- what a ray leaves, where the segment's start and end sit so far inside it

-- at_start / (at_start - at_end)
unfoldable pub fraction_of : Float → Float → Float
fraction_of start end = div binary32 start (sub binary32 start end)

-- lo.max(fraction): "a NaN fraction moves neither lo nor hi;"
unfoldable pub raised_of : Float → Float → Float
raised_of lo fraction = cond (lt lo fraction) fraction lo

-- hi.min(fraction)
unfoldable pub lowered_of : Float → Float → Float
lowered_of hi fraction = cond (lt fraction hi) fraction hi

-- "both ends outside one ray, .. gives none."
unfoldable pub both_outside_of : Float → Float → Bool
both_outside_of start end = lt start zero && lt end zero

-- else lo moves to where a segment that starts outside comes in, or hi to where one that ends outside goes out
unfoldable pub cut_of : Part → Float → Float → Option Part
cut_of part start end =
    let fraction = fraction_of start end in
    cond (both_outside_of start end) None
    (cond (lt start zero) (Some (record { lo = raised_of part.lo fraction; hi = part.hi }))
    (cond (lt end zero) (Some (record { lo = part.lo; hi = lowered_of part.hi fraction }))
    (Some part)))

-- ---- the clip

-- what follows where a part is left, and where none is
abbrev pub if_kept : {A : Type 0} → Option Part → (Part → A) → A → A
if_kept (Some part) then else = then part
if_kept None then else = else

-- from 0 to 1, by the right ray and then by the left ray
unfoldable pub part_inside_of : Cone → Segment → Option Part
part_inside_of cone segment =
    if_kept (cut_of (record { lo = zero; hi = one }) (from_right_of cone segment.0) (from_right_of cone segment.1))
    (λ part. cut_of part (from_left_of cone segment.0) (from_left_of cone segment.1))
    None

-- "Else segment.0 plus the difference times lo and times hi, even at 0 and 1."
unfoldable pub part_of : Part → Segment → Segment
part_of part segment =
    let along = minus_of segment.1 segment.0 in
    (plus_of segment.0 (times_of along part.lo), plus_of segment.0 (times_of along part.hi))

-- ".. or lo > hi, gives none."
unfoldable pub clip_of : Cone → Segment → Option Segment
clip_of cone segment =
    cond (has_short_ray_of cone) (Some segment)
    (if_kept (part_inside_of cone segment)
    (λ part. cond (lt part.hi part.lo) None (Some (part_of part segment)))
    None)

-- the same, with the cone made for this one segment
unfoldable pub clip_to_cone_of : Point → Segment → Segment → Option Segment
clip_to_cone_of root cone segment = clip_of (cone_of root cone) segment
