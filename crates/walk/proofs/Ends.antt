-- Every end of a part of an edge is an end of the edge or a sum of points: what holds of these holds of it. Assumes nothing.
use mathlib.Core.Bool.{Bool, true, false, cond}
use Rattle.std.specs.Prelude.{Option, Some, None}
use Rattle.point.specs.declared.Point.{Point}
use Rattle.point.specs.declared.Segment.{Segment}
use Rattle.point.specs.declared.EdgeSide.{EdgeSide}
use Rattle.point.specs.declared.EdgeSide.TheVariants.{Left, Right, Edge}
use Rattle.point.specs.Point.{plus_of, minus_of, times_of}
use Rattle.point.specs.Sides.{side_of}
use Rattle.helpers.specs.Helpers.{crosses_of, clamp_of, intersection_time_of, line_intersect_segment_of}
use Rattle.cut.specs.declared.SuccessorType.{SuccessorType}
use Rattle.walk.specs.declared.Part.{Part}
use Rattle.cut.specs.declared.Cut.{Cut}
use Rattle.cut.specs.Cut.{first_cut_of, second_cut_of, first_crossing_of, cut_if_of, nowhere_of, told_apart_of, apart_from_both_of}
use Rattle.walk.specs.Walk.{part_of, before, behind, cut_or, rest_of, left_of, walk_edge_of}
use Rattle.walk.proofs.All.{All, all_append}

by_side : {A : Type 0} (P : A → Type 0) (side : EdgeSide) (l r e : A) → P l → P r → P e
    → P (elim side as (λ _. A) [ Left ↦ l | Right ↦ r | Edge ↦ e ])
by_side P Left l r e a b c = a
by_side P Right l r e a b c = b
by_side P Edge l r e a b c = c

module _ (P : Point → Type 0) (sums : (a b : Point) → P (plus_of a b)) where
  -- ---- cuts

  abbrev AtIt : Option Point → Type 0
  AtIt (Some p) = P p
  AtIt None = Unit {0}

  abbrev OfCut : Cut → Type 0
  OfCut c = AtIt c.at

  meeting : (line segment : Segment) → AtIt (line_intersect_segment_of line segment)
  unfolding line_intersect_segment_of
  meeting line segment = go (crosses_of (intersection_time_of line segment))
    where
      go : (b : Bool)
          → AtIt (cond b (Some (plus_of segment.0 (times_of (minus_of segment.1 segment.0) (clamp_of (intersection_time_of line segment))))) None)
      go true = sums _ _
      go false = tt

  cut_if : (b : Bool) (p : Point) → P p → AtIt (cut_if_of b p)
  unfolding cut_if_of
  cut_if true p h = h
  cut_if false p h = tt

  nowhere : (kind : SuccessorType) → OfCut (nowhere_of kind)
  unfolding nowhere_of
  nowhere kind = tt

  by_crossing : (c : Option Point) → AtIt c → (f : Point → Cut) (n : Cut) → ((p : Point) → P p → OfCut (f p)) → OfCut n
      → OfCut (elim c as (λ _. Cut) [ Some q ↦ f q | None ↦ n ])
  by_crossing (Some p) h f n a b = a p h
  by_crossing None h f n a b = b

  first_crossing : (p : Point) (edge : Segment) (kind : SuccessorType) → P p → OfCut (first_crossing_of p edge kind)
  unfolding first_crossing_of
  first_crossing p edge kind h = cut_if (apart_from_both_of p edge) p h

  first_cut : (right edge : Segment) (kind : SuccessorType) → OfCut (first_cut_of right edge kind)
  unfolding first_cut_of
  first_cut right edge kind =
      by_side OfCut (side_of edge.0 right) _ _ _ (nowhere _)
      (by_crossing (line_intersect_segment_of right edge) (meeting right edge) (λ p. first_crossing_of p edge kind) (nowhere_of kind)
      (λ p h. first_crossing p edge kind h) (nowhere kind))
      (nowhere _)

  second_cut : (left right edge : Segment) (kind : SuccessorType) → OfCut (second_cut_of left right edge kind)
  unfolding second_cut_of
  second_cut left right edge kind =
      by_side OfCut (side_of edge.1 left) _ _ _
      (by_crossing (line_intersect_segment_of left edge) (meeting left edge) _ (nowhere_of kind) (λ p h. cut_if (told_apart_of p edge.1) p h) (nowhere kind))
      (nowhere kind)
      (nowhere _)

  -- ---- one edge

  abbrev pub BothEnds : Part → Type 0
  BothEnds part = P part.interval.0 × P part.interval.1

  cut_or_lem : (c : Option Point) (p : Point) → AtIt c → P p → P (cut_or c p)
  cut_or_lem (Some q) p h k = h
  cut_or_lem None p h k = k

  in_before : (c : Option Point) (p : Point) (kind : SuccessorType) → AtIt c → P p → All BothEnds (before c p kind)
  unfolding part_of
  in_before (Some q) p kind h k = ((k, h), tt)
  in_before None p kind h k = tt

  in_behind : (c : Option Point) (p : Point) (kind : SuccessorType) → AtIt c → P p → All BothEnds (behind c p kind)
  unfolding part_of
  in_behind (Some q) p kind h k = ((h, k), tt)
  in_behind None p kind h k = tt

  in_rest : (left right edge : Segment) (kind : SuccessorType) → P edge.0 → P edge.1 → All BothEnds (rest_of left right edge kind).parts
  unfolding rest_of part_of
  in_rest left right edge kind a b =
      let second = second_cut_of left right edge kind in
      let c = second_cut left right edge kind in
      ((a, cut_or_lem second.at edge.1 c b), in_behind second.at edge.1 second.kind c b)

  pub each_end : (root : Point) (interval edge : Segment) (kind : SuccessorType) → P edge.0 → P edge.1
      → All BothEnds (walk_edge_of root interval edge kind).parts
  unfolding walk_edge_of left_of
  each_end root interval edge kind a b =
      let first = first_cut_of (root, interval.0) edge kind in
      let c = first_cut (root, interval.0) edge kind in
      all_append BothEnds (before first.at edge.0 kind) _ (in_before first.at edge.0 kind c a)
      (in_rest (root, interval.1) (root, interval.0) (cut_or first.at edge.0, edge.1) first.kind (cut_or_lem first.at edge.0 c a) b)
