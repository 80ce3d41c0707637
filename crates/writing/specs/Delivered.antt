-- Document 01, what comes of a search when it has ended: the answer, and the output with the route's bytes in it. Definitions only. Assumes nothing.
use Rattle.std.specs.Prelude.{ℕ, zero, suc, cond, List, ◌++◌, ltb, length, drop}
use Rattle.point.specs.declared.Point.{Point}
use Rattle.route.specs.Record.{seed_bytes, step_bytes, end_bytes}
use Rattle.steps.specs.declared.Trip.{Trip}
use Rattle.steps.specs.declared.Node.{Node}
use Rattle.steps.specs.Steps.{seed_node}
use Rattle.steps.specs.World.{ending_of}
use Rattle.places.specs.Layout.{Work, node_at, step_at, parent_at, depth_at}
use Rattle.machine.specs.declared.Finish.{Finish}
use Rattle.machine.specs.declared.Finish.TheVariants.{Arrived, Emptied, Filled, Stopped, Crowded}
use Rattle.machine.specs.Search.{Ending}
use Rattle.writing.specs.declared.Answer.{Answer}
use Rattle.writing.specs.declared.Answer.TheVariants.{Found, NotFound, Full, Spent, Short, TableFull}

-- the answer and the output
pub record Delivered : Type 0 where
  pub answer : Answer
  pub out : List ℕ

abbrev pub delivered_of : Answer → List ℕ → Delivered
delivered_of answer out = record { answer = answer; out = out }

-- ---- the route's bytes

-- the seed's record, then those of the steps along the chain of parents, oldest first
unfoldable pub chain_bytes : Work → List ℕ → ℕ → ℕ → List ℕ
chain_bytes w seed zero i = seed
chain_bytes w seed (suc depth) i = chain_bytes w seed depth (parent_at w i) ++ step_bytes (step_at w i)

unfoldable pub end_after : Point → Node → List ℕ
end_after goal node = end_bytes (ending_of goal node).points goal (ending_of goal node).length

-- the route of this trip that ends at place i
unfoldable pub route_bytes : Work → Trip → ℕ → List ℕ
route_bytes w trip i = chain_bytes w (seed_bytes trip.from trip.start) (depth_at w i) i ++ end_after trip.goal (node_at w i)

-- "With no step in the chain the goal is the only point."
unfoldable pub straight_bytes : Trip → List ℕ
straight_bytes trip = seed_bytes trip.from trip.start ++ end_after trip.goal (seed_node trip.start trip.from)

-- "13: output too short." "On 0 the search fills exactly the route's bytes; those behind stay."
unfoldable pub written : List ℕ → ℕ → List ℕ → Delivered
written bytes steps out =
    cond (ltb (length out) (length bytes)) (delivered_of (Short steps) out) (delivered_of (Found steps (length bytes)) (bytes ++ drop (length bytes) out))

-- ---- how it ended

abbrev pub finished : Work → Trip → Finish → ℕ → List ℕ → Delivered
finished w trip (Arrived i) steps out = written (route_bytes w trip i) steps out
finished w trip Emptied steps out = delivered_of (NotFound steps) out
finished w trip Filled steps out = delivered_of (Full steps) out
finished w trip Stopped steps out = delivered_of (Spent steps) out
finished w trip Crowded steps out = delivered_of (TableFull steps) out

unfoldable pub delivered : Trip → Ending → List ℕ → Delivered
delivered trip e out = finished e.state.work trip e.finish e.state.counts.pops out
