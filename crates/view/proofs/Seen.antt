-- What the code keeps of a node gives document 01's steps. Rests on specs/View. Assumes nothing.
use Prim.Native.Nat.{ℕ, ◌<◌}
use mathlib.Core.Path.{◌≡◌, refl, ap, ◌∙◌}
use mathlib.Core.Bool.{Bool, true, false, not, ◌&&◌, cond}
use mathlib.Core.List.{List}
use lib.Dec.{eqb}
use Rattle.std.specs.Prelude.{Option, Some, None}
use Rattle.std.specs.Option.{option_and_then}
use Rattle.plan.specs.Plan.{vertex_count_in, is_marked}
use Rattle.stored.specs.Stored.{Floor, unused, corner, corner_after, neighbour, polygon, vertices_of, floor_in}
use Rattle.edges.specs.Where.{is_turn}
use Rattle.edges.specs.Ground.{Ground}
use Rattle.point.specs.declared.Segment.{Segment}
use Rattle.point.specs.Point.{same_of}
use Rattle.cone.specs.Cone.{clip_to_cone_of}
use Rattle.cone.proofs.Clip.{kept_cone_clips_the_same}
use Rattle.cut.specs.declared.SuccessorType.{SuccessorType}
use Rattle.cut.specs.declared.SuccessorType.TheVariants.{LeftNonObservable, Observable, RightNonObservable}
use Rattle.walk.specs.declared.Successor.{Successor}
use Rattle.steps.specs.declared.Node.{Node}
use Rattle.route.specs.declared.Step.{Step}
use Rattle.steps.specs.Steps.{is_allowed, root_after, clipped, is_interval, if_seen, step_of}
use Rattle.view.specs.View.{corner_on, view_of, allows_of, keeps_by, clips_by, neighbour_by, clip_if, over_by, step_by}

-- by the plan of a floor the view is the floor's
module _ {plan vs ps : List ℕ} (g : Ground plan vs ps) where
  pub marks_tell : (v : ℕ) → v < vertex_count_in plan → is_marked plan v ≡ is_turn (floor_in plan vs ps) v
  marks_tell v h = g.turns_are_marked v h

  pub view_by_plan : (node : Node) → node.first < vertex_count_in plan → node.second < vertex_count_in plan
      → view_of (vertices_of vs) (is_marked plan) node ≡ view_of (vertices_of vs) (is_turn (floor_in plan vs ps)) node
  unfolding view_of corner_on
  view_by_plan node first second = rw (marks_tell node.first first, marks_tell node.second second)

  pub allowed_by_plan : (node : Node) → node.first < vertex_count_in plan → node.second < vertex_count_in plan → (kind : SuccessorType)
      → is_allowed (vertices_of vs) (is_marked plan) node kind ≡ is_allowed (vertices_of vs) (is_turn (floor_in plan vs ps)) node kind
  unfolding is_allowed
  allowed_by_plan node first second Observable = refl
  allowed_by_plan node first second RightNonObservable = rw (marks_tell node.first first)
  allowed_by_plan node first second LeftNonObservable = rw (marks_tell node.second second)

module _ (f : Floor) (node : Node) where
  allows_is : (kind : SuccessorType) → allows_of (view_of f.vertices (is_turn f) node) kind ≡ is_allowed f.vertices (is_turn f) node kind
  unfolding allows_of view_of corner_on is_allowed
  allows_is Observable = refl
  allows_is RightNonObservable = refl
  allows_is LeftNonObservable = refl

  keeps_is : (kind : SuccessorType) → keeps_by (view_of f.vertices (is_turn f) node) kind ≡ same_of (root_after f.vertices node kind) node.root
  unfolding keeps_by view_of corner_on root_after
  keeps_is Observable = refl
  keeps_is RightNonObservable = refl
  keeps_is LeftNonObservable = refl

  seen_is : (kind : SuccessorType) (interval : Segment)
      → clip_if (clips_by (view_of f.vertices (is_turn f) node) kind) (view_of f.vertices (is_turn f) node).cone interval
      ≡ clipped f.vertices node kind interval
  unfolding clip_if clips_by clipped view_of
  seen_is kind interval =
      rw (keeps_is kind)
      (ap (λ (x : Option Segment). cond (cond node.seed false (same_of (root_after f.vertices node kind) node.root)) x (Some interval))
      (kept_cone_clips_the_same node.root node.interval interval)
      ∙ go (clip_to_cone_of node.root node.interval interval) (Some interval) node.seed (same_of (root_after f.vertices node kind) node.root))
    where
      go : (x y : Option Segment) (seed same : Bool) → cond (cond seed false same) x y ≡ cond (not seed && same) x y
      go x y true same = refl
      go x y false same = refl

  pub step_by_view : (s : Successor) → step_by (polygon f node.polygon) (view_of f.vertices (is_turn f) node) s ≡ step_of f node s
  unfolding step_by neighbour_by over_by step_of
  step_by_view s =
      rw (allows_is s.part.kind, seen_is s.part.kind s.part.interval)
      (go (is_allowed f.vertices (is_turn f) node s.part.kind) (eqb (neighbour (polygon f node.polygon) s.edge) unused)
      (neighbour (polygon f node.polygon) s.edge) over)
    where
      over : ℕ → Option Step
      over n =
          if_seen (clipped f.vertices node s.part.kind s.part.interval) (λ interval.
          cond (not (is_interval interval)) None
          (Some (record {
            kind = s.part.kind;
            polygon = n;
            first = corner (polygon f node.polygon) s.edge;
            second = corner_after (polygon f node.polygon) s.edge;
            interval = interval;
          })))

      go : (allowed wall : Bool) (n : ℕ) (x : ℕ → Option Step)
          → option_and_then x (cond allowed (cond wall None (Some n)) None) ≡ cond wall None (cond (not allowed) None (x n))
      go true true n x = refl
      go true false n x = refl
      go false true n x = refl
      go false false n x = refl
