-- What document 01 says of a clip's answer, for whoever reads a law of proofs/Clip: which rays are short, why nothing of a segment is seen, and where the
-- ends of what is seen lie. Rests on specs/Cone. Definitions only. Assumes nothing.
use Rattle.std.specs.Prelude.{◌≡◌, true, false, Some, Float}
use Rattle.std.specs.Float.{binary32}
use Rattle.std.specs.Float.Ieee.{add, sub, mul, lt}
use Rattle.point.specs.declared.Point.{Point}
use Rattle.point.specs.declared.Segment.{Segment}
use Rattle.point.specs.Point.{minus_of, length_of}
use Rattle.cone.specs.declared.Cone.{Cone}
use Rattle.cone.specs.declared.Part.{Part}
use Rattle.cone.specs.Cone.{from_right_of, from_left_of, both_outside_of, part_inside_of}

-- the lengths of the rays from the root to the cone's ends
abbrev pub right_length : Point → Segment → Float
right_length root cone = length_of (minus_of cone.0 root)

abbrev pub left_length : Point → Segment → Float
left_length root cone = length_of (minus_of cone.1 root)

-- "both ends outside one ray, or lo > hi, gives none."
pub data Unseen (cone : Cone) (segment : Segment) : Type 0 where
  outside_right : both_outside_of (from_right_of cone segment.0) (from_right_of cone segment.1) ≡ true → Unseen cone segment
  outside_left : both_outside_of (from_left_of cone segment.0) (from_left_of cone segment.1) ≡ true → Unseen cone segment
  crossed : {part : Part} → part_inside_of cone segment ≡ Some part → lt part.hi part.lo ≡ true → Unseen cone segment

-- from + (to - from) * part, each operation rounded
abbrev pub part_way : Float → Float → Float → Float
part_way from to part = add binary32 from (mul binary32 (sub binary32 to from) part)

-- "Else segment.0 plus the difference times lo and times hi, even at 0 and 1": coordinate by coordinate, for the lo and hi that the rays leave.
pub record ClipEnds (cone : Cone) (segment seen : Segment) : Type 0 where
  pub part : Part
  pub inside : part_inside_of cone segment ≡ Some part
  pub in_order : lt part.hi part.lo ≡ false
  pub start_x : seen.0.x ≡ part_way segment.0.x segment.1.x part.lo
  pub start_y : seen.0.y ≡ part_way segment.0.y segment.1.y part.lo
  pub end_x : seen.1.x ≡ part_way segment.0.x segment.1.x part.hi
  pub end_y : seen.1.y ≡ part_way segment.0.y segment.1.y part.hi
