-- Walks that antt computes: an edge in three parts, a cut that is passed over, and kinds that return to seen. Assumes nothing.
use Prim.Native.Nat.{ℕ}
use mathlib.Core.Path.{◌≡◌, refl}
use mathlib.Core.List.{[], ◌∷◌}
use lib.Ieee.{add, sub, mul, div, neg, lt, le, of_bits, odd, size, round}
use Rattle.point.specs.declared.Segment.{Segment}
use Rattle.point.specs.Numbers.{0', 1', 2', 3', 4', 5', -1', -2', -4'}
use Rattle.point.specs.Point.{point_of, from_bits_of, minus_of, plus_of, times_of, dot_of, perp_dot_of, distance_squared_of}
use Rattle.point.specs.Sides.{magnitude_of, side_of}
use Rattle.helpers.specs.Helpers.{intersection_time_of, crosses_of, clamp_of, line_intersect_segment_of}
use Rattle.cut.specs.declared.SuccessorType.TheVariants.{LeftNonObservable, Observable, RightNonObservable}
use Rattle.cut.specs.Cut.{told_apart_of, apart_from_both_of, cut_if_of, seen_if_of, nowhere_of, first_crossing_of, seen_from_right_of, unless_right_of, first_cut_of, second_cut_of}
use Rattle.walk.specs.Walk.{part_of, rest_of, left_of, walk_edge_of}
use Rattle.walk.specs.Round.{wrapped, corner_of, edge_of, after_entry, edges_from, others, walk_of, successors_of}

-- ---- numbers, as the bit patterns of their f32

-- 2 + 2^-11
abbrev a_hair_past_2' : ℕ
a_hair_past_2' = 0x40000800

abbrev line : ℕ → ℕ → ℕ → ℕ → Segment
line a b c d = (from_bits_of a b, from_bits_of c d)

-- ---- one edge, seen from (0,0) through (1,2)-(-1,2)

-- (4,4)-(-4,4): the rays cut it at (2,4) and (-2,4)
pub three_parts : walk_edge_of (from_bits_of 0' 0') (line 1' 2' -1' 2') (line 4' 4' -4' 4') RightNonObservable ≡ record {
  parts = part_of (from_bits_of 4' 4') (from_bits_of 2' 4') RightNonObservable
      ∷ part_of (from_bits_of 2' 4') (from_bits_of -2' 4') Observable
      ∷ part_of (from_bits_of -2' 4') (from_bits_of -4' 4') LeftNonObservable
      ∷ [];
  kind = LeftNonObservable;
}
unfolding walk_edge_of left_of rest_of first_cut_of second_cut_of first_crossing_of told_apart_of apart_from_both_of cut_if_of seen_if_of nowhere_of seen_from_right_of
    unless_right_of part_of side_of line_intersect_segment_of intersection_time_of magnitude_of crosses_of clamp_of point_of from_bits_of minus_of plus_of times_of dot_of
    perp_dot_of distance_squared_of add sub mul div neg lt le of_bits odd size round
three_parts = refl

-- (2 + 2^-11,4)-(0,4): the right ray's cut at (2,4) is too near to the start to make an interval, and what comes behind it is seen all the same
pub passed_over : walk_edge_of (from_bits_of 0' 0') (line 1' 2' -1' 2') (line a_hair_past_2' 4' 0' 4') RightNonObservable ≡ record {
  parts = part_of (from_bits_of a_hair_past_2' 4') (from_bits_of 0' 4') Observable ∷ [];
  kind = Observable;
}
unfolding walk_edge_of left_of rest_of first_cut_of second_cut_of first_crossing_of told_apart_of apart_from_both_of cut_if_of seen_if_of nowhere_of seen_from_right_of
    unless_right_of part_of side_of line_intersect_segment_of intersection_time_of magnitude_of crosses_of clamp_of point_of from_bits_of minus_of plus_of times_of dot_of
    perp_dot_of distance_squared_of add sub mul div neg lt le of_bits odd size round
passed_over = refl

-- ---- round a polygon

-- 01, Easy to get wrong: "Assuming the walk's kinds run right, seen, left: they may return to seen." From (0,4) through (0,2)-(1,3) into the polygon
-- (1,3) (0,2) (3,1) (0,5) by its edge 0.
pub back_to_seen : successors_of (from_bits_of 0' 4') (line 0' 2' 1' 3')
    (from_bits_of 1' 3' ∷ from_bits_of 0' 2' ∷ from_bits_of 3' 1' ∷ from_bits_of 0' 5' ∷ []) 0 ≡
    record { edge = 1; part = part_of (from_bits_of 0' 2') (from_bits_of 3' 1') Observable }
    ∷ record { edge = 2; part = part_of (from_bits_of 3' 1') (from_bits_of 3' 1') LeftNonObservable }
    ∷ record { edge = 2; part = part_of (from_bits_of 3' 1') (from_bits_of 0' 5') LeftNonObservable }
    ∷ record { edge = 3; part = part_of (from_bits_of 0' 5') (from_bits_of 1' 3') Observable }
    ∷ []
unfolding successors_of others edges_from after_entry wrapped edge_of corner_of walk_of walk_edge_of left_of rest_of first_cut_of second_cut_of first_crossing_of
    told_apart_of apart_from_both_of cut_if_of seen_if_of nowhere_of seen_from_right_of unless_right_of part_of side_of line_intersect_segment_of intersection_time_of
    magnitude_of crosses_of clamp_of point_of from_bits_of minus_of plus_of times_of dot_of perp_dot_of distance_squared_of add sub mul div neg lt le of_bits odd size round
back_to_seen = refl
