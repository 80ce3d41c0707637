-- Document 01, "Points: the new root at each place of the parent chain, oldest first, where the root changed by !=; then turning_point if any; then
-- the goal. With no step in the chain the goal is the only point. Length is the f32 sum in that order from 0.0." Definitions only. Assumes nothing.
use Rattle.std.specs.Prelude.{ℕ, zero, suc, ◌+◌, ◌-◌, ◌/◌, ◌≡◌, cond, Option, Some, None, List, [], ◌∷◌, Float, length}
use Rattle.std.specs.Float.{binary32}
use Rattle.std.specs.Float.Ieee.{add}
use Rattle.point.specs.declared.Point.{Point}
use Rattle.point.specs.Point.{zero as zero_float, same_of, distance_of}
use Rattle.helpers.specs.Helpers.{turning_point_of}
use Rattle.route.specs.declared.Step.{Step}
use Rattle.stored.specs.declared.Question.{Question}
use Rattle.route.specs.Record.{record_at, records, end_bytes}
use Rattle.route.specs.World.{World}
use Rattle.route.specs.Judge.{find_step}
use Rattle.steps.specs.declared.Node.{Node}

-- ---- the parent chain

abbrev pub onto : Option Step → (Step → List Node) → List Node
onto (Some step) nodes = nodes step
onto None nodes = []

module _ (w : World Node) (file : List ℕ) where
  -- the nodes that the records from i on lead to out of this one, with this many middle records left before the last one
  unfoldable pub chain_from : Node → ℕ → ℕ → List Node
  chain_from node i zero = []
  chain_from node i (suc left) =
      onto (find_step (w.steps_from node) (record_at file i)) (λ step. w.enter node step ∷ chain_from (w.enter node step) (i + 1) left)

  -- the chain behind the seed, oldest first
  unfoldable pub chain_of : List Node
  chain_of = chain_from w.seed 1 (records file - 2)

-- ---- its points

abbrev pub going_round : Option Point → Point → List Point
going_round (Some point) goal = point ∷ goal ∷ []
going_round None goal = goal ∷ []

-- "then turning_point if any; then the goal. With no step in the chain the goal is the only point."
unfoldable pub last_points : Point → Node → List Point
last_points goal node = cond node.seed (goal ∷ []) (going_round (turning_point_of node.root goal node.interval) goal)

-- "the new root at each place of the parent chain, oldest first, where the root changed by !="
unfoldable pub points_along : Point → Node → List Node → List Point
points_along goal node [] = last_points goal node
points_along goal node (next ∷ nodes) = cond (same_of next.root node.root) (points_along goal next nodes) (next.root ∷ points_along goal next nodes)

unfoldable pub points_of : World Node → Point → List ℕ → List Point
points_of w goal file = points_along goal w.seed (chain_of w file)

-- ---- their length

-- from a point on, after so much
unfoldable pub length_from : Float → Point → List Point → Float
length_from total at [] = total
length_from total at (point ∷ points) = length_from (add binary32 total (distance_of at point)) point points

-- "the f32 sum in that order from 0.0"
unfoldable pub length_of : Point → List Point → Float
length_of start points = length_from zero_float start points

-- ---- the end record

-- "End: 5, number of points, goal x, y, length": the last record of a file has the number of these points, and their length.
abbrev pub EndCarries : Question → List Point → List ℕ → Type 0
EndCarries q points file = record_at file (length file / 32 - 1) ≡ end_bytes (length points) q.goal (length_of q.start points)
