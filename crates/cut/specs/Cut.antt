-- The cuts of one edge, as document 01 has them under "The walk" and edges_between of polyanya's src/instance.rs has them in its lines, which stand above what
-- renders them. Rests on the definitions of `point` and `helpers`. Assumes nothing.
-- The kinds are the Rust's `SuccessorType`. The contract of a function cites the definition of its name with `Of` behind it; `nowhere_of` is for `Cut::nowhere`.
use Rattle.std.specs.Prelude.{Bool, cond, ◌&&◌, Option, Some, None}
use Rattle.std.specs.Float.Ieee.{lt}
use Rattle.point.specs.declared.Point.{Point}
use Rattle.point.specs.declared.Segment.{Segment}
use Rattle.point.specs.declared.EdgeSide.{EdgeSide}
use Rattle.point.specs.declared.EdgeSide.TheVariants.{Left, Right, Edge}
use Rattle.point.specs.Point.{apart, distance_squared_of}
use Rattle.point.specs.Sides.{side_of}
use Rattle.helpers.specs.Helpers.{line_intersect_segment_of}
use Rattle.cut.specs.declared.SuccessorType.{SuccessorType}
use Rattle.cut.specs.declared.SuccessorType.TheVariants.{LeftNonObservable, Observable, RightNonObservable}
use Rattle.cut.specs.declared.Cut.{Cut}

-- ---- cuts

-- 01, The walk: "Cut points within squared distance 1e-6 of an end are passed over as written." A cut that is not is told apart from the end.
-- intersect.distance_squared(end_point) > 1.0e-6
unfoldable pub told_apart_of : Point → Point → Bool
told_apart_of cut end = lt apart (distance_squared_of cut end)

unfoldable pub apart_from_both_of : Point → Segment → Bool
apart_from_both_of cut edge = told_apart_of cut edge.0 && told_apart_of cut edge.1

-- a cut that counts makes an interval
unfoldable pub cut_if_of : Bool → Point → Option Point
cut_if_of counts cut = cond counts (Some cut) None

unfoldable pub seen_if_of : Bool → SuccessorType → SuccessorType
seen_if_of past kind = cond past Observable kind

-- no cut, and this kind
unfoldable pub nowhere_of : SuccessorType → Cut
nowhere_of kind = record { at = None; kind = kind }

-- ---- the first cut, by the right ray

-- if intersect.distance_squared(start_point) > 1.0e-6 && intersect.distance_squared(end_point) > 1.0e-6 {
--     push (start_point, intersect); start_point = intersect;
-- }
-- if intersect.distance_squared(end_point) > 1.0e-6 { ty = SuccessorType::Observable; }
unfoldable pub first_crossing_of : Point → Segment → SuccessorType → Cut
first_crossing_of intersect edge kind = record {
  at = cut_if_of (apart_from_both_of intersect edge) intersect;
  kind = seen_if_of (told_apart_of intersect edge.1) kind;
}

-- if ty == SuccessorType::RightNonObservable { ty = SuccessorType::Observable; }
unfoldable pub seen_from_right_of : SuccessorType → SuccessorType
seen_from_right_of LeftNonObservable = LeftNonObservable
seen_from_right_of Observable = Observable
seen_from_right_of RightNonObservable = Observable

-- match end_point.side((node.root, node.interval.0)) { EdgeSide::Edge | EdgeSide::Left => { ty = then; } _ => () }
unfoldable pub unless_right_of : EdgeSide → SuccessorType → SuccessorType → SuccessorType
unless_right_of Left then kind = then
unless_right_of Right then kind = kind
unless_right_of Edge then kind = then

-- match start_point.side((node.root, node.interval.0))
unfoldable pub first_cut_of : Segment → Segment → SuccessorType → Cut
first_cut_of right edge kind =
    elim (side_of edge.0 right) [
      | Right ↦ elim (line_intersect_segment_of right edge) [ Some intersect ↦ first_crossing_of intersect edge kind | None ↦ nowhere_of kind ]
      | Left ↦ nowhere_of (seen_from_right_of kind)
      | Edge ↦ nowhere_of (unless_right_of (side_of edge.1 right) Observable kind)
    ]

-- ---- the second cut, by the left ray, on what the first one left of the edge

-- let end_root_int1 = end_point.side((node.root, node.interval.1)); the Rust matches it twice, before and after the push between. Left twice is one case here:
-- a point that line_intersect_segment found sets found_intersection, and so the kind, also where it is passed over.
unfoldable pub second_cut_of : Segment → Segment → Segment → SuccessorType → Cut
second_cut_of left right edge kind =
    elim (side_of edge.1 left) [
      | Left ↦ elim (line_intersect_segment_of left edge) [
        | Some intersect ↦ record { at = cut_if_of (told_apart_of intersect edge.1) intersect; kind = LeftNonObservable }
        | None ↦ nowhere_of kind
      ]
      | Edge ↦ nowhere_of (unless_right_of (side_of edge.1 right) LeftNonObservable kind)
      | Right ↦ nowhere_of kind
    ]
