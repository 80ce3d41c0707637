-- Document 01's search as it was before document 02's M-130: with no table, and nothing known of a stall. proofs/Calm has that a search that never stalls is
-- this one. Definitions only. Assumes nothing.
use Rattle.std.specs.Prelude.{ℕ, zero, suc, cond, eqb, Option, Some, None}
use Rattle.machine.specs.declared.Finish.{Finish}
use Rattle.stored.specs.Stored.{Floor}
use Rattle.queue.specs.Queue.{none}
use Rattle.places.specs.Layout.{Work, node_at, least_in}
use Rattle.machine.specs.declared.Task.{Task}
use Rattle.machine.specs.declared.Finish.TheVariants.{Emptied, Filled, Stopped}
use Rattle.machine.specs.Search.{State, Stepping, stepping, Ending, ending, is_beaten, pursued, popped, outset}

module _ (f : Floor) (t : Task) where
  -- "Dropped if its root has a strictly smaller distance. In the goal polygon: found. Else make its steps."
  unfoldable pub visited_before : State → ℕ → Stepping
  visited_before s i = cond (is_beaten s (node_at s.work i)) (stepping s None) (pursued f t s i)

  -- "A step: empty queue is 1; .. else pop"
  unfoldable pub step_before : State → Stepping
  step_before s =
      let i = least_in t.places s.work in
      cond (eqb i none) (stepping s (Some Emptied)) (visited_before (popped f t s i) i)

  abbrev pub onwards_before : State → Option Finish → (State → Ending) → Ending
  onwards_before s None next = next s
  onwards_before s (Some finish) next = ending s finish

  -- steps until the search ends: "empty queue is 1; budget spent is 12"
  unfoldable pub run_before : ℕ → State → Ending
  run_before zero s = cond (eqb (least_in t.places s.work) none) (ending s Emptied) (ending s Stopped)
  run_before (suc budget) s = onwards_before (step_before s).state (step_before s).outcome (run_before budget)

  unfoldable pub searched_before : ℕ → Work → Ending
  searched_before budget w =
      let m = outset f t w in
      cond m.full (ending m.state Filled) (run_before budget m.state)
