-- What polyanya's src/helpers.rs adds to a point, as document 01 has it under "Geometry": its side of a line, its mirror image, the lesser and the
-- greater of two numbers, whether it is on a segment. Rests on specs/Point. Assumes nothing. Each definition is what the contract of the function of
-- that name says, with `Of` behind it. A comment in quotes is 01's sentence, any other the Rust's own line or words.
use Rattle.std.specs.Prelude.{Bool, true, false, cond, ◌&&◌, Float}
use Rattle.std.specs.Float.{binary32}
use Rattle.std.specs.Float.Ieee.{add, sub, neg, lt, le}
use Rattle.point.specs.declared.Point.{Point}
use Rattle.point.specs.declared.Segment.{Segment}
use Rattle.point.specs.declared.EdgeSide.{EdgeSide}
use Rattle.point.specs.declared.EdgeSide.TheVariants.{Left, Right, Edge}
use Rattle.point.specs.Point.{zero, two, epsilon, box_epsilon, minus_of, plus_of, times_of, perp_dot_of, project_onto_of}

-- ---- side

-- x.abs(), as far as a comparison can tell: -0.0 stays, and no comparison knows it from 0.0 (proofs/Laws, magnitude_below)
unfoldable pub magnitude_of : Float → Float
magnitude_of x = cond (lt x zero) (neg x) x

-- 01, Geometry: "side: perp_dot(line, point), both from line.0: Edge if its magnitude is below f32 1e-4, else Left if positive, else Right. NaN is Right."
unfoldable pub side_of : Point → Segment → EdgeSide
side_of p line =
    let area = perp_dot_of (minus_of line.1 line.0) (minus_of p line.0) in
    cond (lt (magnitude_of area) epsilon) Edge (cond (lt zero area) Left Right)

-- Rust's == on sides, which the derive gives (proofs/Laws, same_side_same)
unfoldable pub same_side_of : EdgeSide → EdgeSide → Bool
same_side_of Left Left = true
same_side_of Left Right = false
same_side_of Left Edge = false
same_side_of Right Left = false
same_side_of Right Right = true
same_side_of Right Edge = false
same_side_of Edge Left = false
same_side_of Edge Right = false
same_side_of Edge Edge = true

-- ---- mirror

-- line.0 + (2.0 * local_point.project_onto(local_line) - local_point)
unfoldable pub mirror_of : Point → Segment → Point
mirror_of p line =
    let local = minus_of p line.0 in
    plus_of line.0 (minus_of (times_of (project_onto_of local (minus_of line.1 line.0)) two) local)

-- ---- min and max

-- 01, Geometry: "min and max return the second operand unless the comparison holds."
unfoldable pub min_of : Float → Float → Float
min_of x y = cond (lt x y) x y

unfoldable pub max_of : Float → Float → Float
max_of x y = cond (lt y x) x y

-- ---- on a segment, in a bounding box

-- ((min(a, b) - EPSILON)..=(max(a, b) + EPSILON)).contains(&x)
unfoldable pub between_of : Float → Float → Float → Bool
between_of x a b = le (sub binary32 (min_of a b) box_epsilon) x && le x (add binary32 (max_of a b) box_epsilon)

unfoldable pub in_bounding_box_of : Point → Segment → Bool
in_bounding_box_of p s = between_of p.x s.0.x s.1.x && between_of p.y s.0.y s.1.y

-- self.in_bounding_box(segment) && (self.side(segment) == EdgeSide::Edge)
unfoldable pub on_segment_of : Point → Segment → Bool
on_segment_of p s = in_bounding_box_of p s && same_side_of (side_of p s) Edge
