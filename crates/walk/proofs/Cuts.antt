-- The parts that a cut makes of an edge, and those where there is none: what a return of the walk is proved from. Rests on specs/Walk. Assumes nothing.
use mathlib.Core.Path.{◌≡◌}
use mathlib.Core.List.{◌∷◌}
use Rattle.std.specs.Prelude.{Some, None}
use Rattle.point.specs.declared.Point.{Point}
use Rattle.point.specs.declared.Segment.{Segment}
use Rattle.cut.specs.declared.SuccessorType.{SuccessorType}
use Rattle.walk.specs.declared.Part.{Part}
use Rattle.walk.specs.declared.Walked.{Walked}
use Rattle.cut.specs.declared.Cut.{Cut}
use Rattle.cut.specs.Cut.{first_cut_of, second_cut_of}
use Rattle.walk.specs.Walk.{part_of, one_of, two_of, three_of, held, walked_of, left_of, rest_by, rest_of, walk_edge_of}

-- ---- the left ray, on what is left of an edge

module _ (second : Cut) (edge : Segment) (kind : SuccessorType) {v : Walked} where
  pub second_at : (cut : Point) → second.at ≡ Some cut
      → v ≡ two_of (part_of edge.0 cut kind) (part_of cut edge.1 second.kind) second.kind → v ≡ walked_of (rest_by second edge kind)
  second_at cut is h = rw is h

  pub second_none : second.at ≡ None → v ≡ one_of (part_of edge.0 edge.1 kind) second.kind → v ≡ walked_of (rest_by second edge kind)
  second_none is h = rw is h

  module _ (before : Part) where
    pub both_at : (cut : Point) → second.at ≡ Some cut
        → v ≡ three_of before (part_of edge.0 cut kind) (part_of cut edge.1 second.kind) second.kind
        → v ≡ held (before ∷ (rest_by second edge kind).parts) (rest_by second edge kind).kind
    both_at cut is h = rw is h

    pub first_only : second.at ≡ None → v ≡ two_of before (part_of edge.0 edge.1 kind) second.kind
        → v ≡ held (before ∷ (rest_by second edge kind).parts) (rest_by second edge kind).kind
    first_only is h = rw is h

-- ---- the right ray, on an edge

module _ (root : Point) (interval edge : Segment) (kind : SuccessorType) {first : Cut} (gave : first ≡ first_cut_of (root, interval.0) edge kind)
    {rest : Segment} (left : rest ≡ left_of first.at edge) {second : Cut}
    (then : second ≡ second_cut_of (root, interval.1) (root, interval.0) rest first.kind) {v : Walked} where
  pub first_at : (cut : Point) → first.at ≡ Some cut
      → v ≡ held (part_of edge.0 cut kind ∷ (rest_by second rest first.kind).parts) (rest_by second rest first.kind).kind
      → v ≡ walked_of (walk_edge_of root interval edge kind)
  unfolding walk_edge_of rest_of
  first_at cut is h = rw (← gave, ← left, ← then, is) h

  pub first_none : first.at ≡ None → v ≡ walked_of (rest_by second rest first.kind) → v ≡ walked_of (walk_edge_of root interval edge kind)
  unfolding walk_edge_of rest_of
  first_none is h = rw (← gave, ← left, ← then, is) h
