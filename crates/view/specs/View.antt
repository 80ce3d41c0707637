-- What a node allows and sees, as the code keeps it: each corner of the entry edge looked at once, and the cone made once. `step_by_view` (proofs/Seen) says
-- that the steps are document 01's. Assumes nothing.
use Rattle.std.specs.Prelude.{ℕ, Bool, true, false, not, ◌&&◌, cond, List, Option, Some, None}
use Rattle.std.specs.Option.{option_and_then}
use Rattle.point.specs.declared.Point.{Point}
use Rattle.point.specs.declared.Segment.{Segment}
use Rattle.point.specs.Point.{same_of}
use Rattle.cone.specs.declared.Cone.{Cone}
use Rattle.cone.specs.Cone.{cone_of, clip_of}
use Rattle.cone.specs.Landing.{lands_on_of}
use Rattle.cut.specs.declared.SuccessorType.{SuccessorType}
use Rattle.cut.specs.declared.SuccessorType.TheVariants.{LeftNonObservable, Observable, RightNonObservable}
use Rattle.walk.specs.declared.Successor.{Successor}
use Rattle.stored.specs.Stored.{Polygon, corner, across, corner_after, vertex_in}
use Rattle.steps.specs.declared.Node.{Node}
use Rattle.view.specs.declared.Corner.{Corner}
use Rattle.view.specs.declared.View.{View}
use Rattle.route.specs.declared.Step.{Step}
use Rattle.steps.specs.Steps.{is_interval, if_seen}

-- a vertex of the entry edge, which the interval's end on that side may land on, and at which these turn; it keeps the root where it is the root
unfoldable pub corner_on : List Point → (ℕ → Bool) → ℕ → Point → Point → Corner
corner_on vertices turns v end root = record { allowed = lands_on_of end (vertex_in vertices v) root && turns v; keeps = same_of (vertex_in vertices v) root }

unfoldable pub view_of : List Point → (ℕ → Bool) → Node → View
view_of vertices turns node = record {
  seed = node.seed;
  keeps = same_of node.root node.root;
  cone = cone_of node.root node.interval;
  right = corner_on vertices turns node.first node.interval.0 node.root;
  left = corner_on vertices turns node.second node.interval.1 node.root;
}

unfoldable pub allows_of : View → SuccessorType → Bool
allows_of view Observable = true
allows_of view RightNonObservable = view.right.allowed
allows_of view LeftNonObservable = view.left.allowed

-- whether a step over a part of this kind keeps the root
unfoldable pub keeps_by : View → SuccessorType → Bool
keeps_by view Observable = view.keeps
keeps_by view RightNonObservable = view.right.keeps
keeps_by view LeftNonObservable = view.left.keeps

-- whether a part of this kind is seen through the interval: where the root is kept, and not from the seed
unfoldable pub clips_by : View → SuccessorType → Bool
clips_by view kind = cond view.seed false (keeps_by view kind)

-- the neighbour that a part of this kind of edge i may be stepped over to: at a wall, and where the kind is not allowed, there is none
unfoldable pub neighbour_by : Polygon → View → ℕ → SuccessorType → Option ℕ
neighbour_by q view i kind = cond (allows_of view kind) (across q i) None

unfoldable pub clip_if : Bool → Cone → Segment → Option Segment
clip_if clips cone interval = cond clips (clip_of cone interval) (Some interval)

-- the step over a part of an edge of the polygon, to the neighbour n, or none
unfoldable pub over_by : Polygon → ℕ → Successor → Bool → Cone → Option Step
over_by q n s clips cone =
    if_seen (clip_if clips cone s.part.interval)
    (λ interval.
    cond (not (is_interval interval)) None
    (Some (record { kind = s.part.kind; polygon = n; first = corner q s.edge; second = corner_after q s.edge; interval = interval })))

-- the step over a part of an edge of the polygon, or none
unfoldable pub step_by : Polygon → View → Successor → Option Step
step_by q view s = option_and_then (λ n. over_by q n s (clips_by view s.part.kind) view.cone) (neighbour_by q view s.edge s.part.kind)
