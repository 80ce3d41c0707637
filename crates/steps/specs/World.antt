-- The world of a floor and a question: what search and judge walk in. Document 01, "A permitted step" and "The route file", put together; and how a route ends.
-- Assumes nothing.
use Rattle.std.specs.Prelude.{ℕ, ◌+◌, Bool, cond, Option, Some, None, eqb}
use Rattle.std.specs.Float.{binary32}
use Rattle.std.specs.Float.Ieee.{add}
use Rattle.point.specs.declared.Point.{Point}
use Rattle.point.specs.Point.{distance_of}
use Rattle.helpers.specs.Helpers.{turning_point_of}
use Rattle.stored.specs.Stored.{Floor}
use Rattle.stored.specs.declared.Question.{Question}
use Rattle.edges.specs.Where.{polygon_of}
use Rattle.route.specs.Record.{seed_bytes, end_bytes}
use Rattle.route.specs.World.{World}
use Rattle.steps.specs.declared.Trip.{Trip}
use Rattle.steps.specs.declared.Node.{Node}
use Rattle.steps.specs.declared.Ending.{Ending}
use Rattle.steps.specs.Steps.{steps_from, seed_node, enter}

-- ---- the end: "then turning_point if any; then the goal"

abbrev pub last_leg : Point → Node → Option Point → Ending
last_leg goal node (Some point) =
    record { points = node.points + 2; length = add binary32 (add binary32 node.length (distance_of node.root point)) (distance_of point goal) }
last_leg goal node None = record { points = node.points + 1; length = add binary32 node.length (distance_of node.root goal) }

-- "With no step in the chain the goal is the only point."
unfoldable pub ending_of : Point → Node → Ending
ending_of goal node = cond node.seed (last_leg goal node None) (last_leg goal node (turning_point_of node.root goal node.interval))

-- ---- the world

unfoldable pub is_in_goal : ℕ → Node → Bool
is_in_goal goal node = eqb node.polygon goal

unfoldable pub world_in : Floor → Trip → World Node
world_in f trip = record {
  seed = seed_node trip.start trip.from;
  steps_from = steps_from f trip.to;
  enter = enter f.vertices;
  in_goal = is_in_goal trip.to;
  seed_bytes = seed_bytes trip.from trip.start;
  end_bytes = λ node. end_bytes (ending_of trip.goal node).points trip.goal (ending_of trip.goal node).length;
}

-- what is asked, once it is known in which polygons start and goal lie
abbrev pub trip_of : Question → ℕ → ℕ → Trip
trip_of q from to = record { start = q.start; goal = q.goal; from = from; to = to }

-- "The lowest-numbered one counts."
unfoldable pub world_of : Floor → Question → World Node
world_of f q = world_in f (trip_of q (polygon_of f q.start) (polygon_of f q.goal))
