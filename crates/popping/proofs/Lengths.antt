-- A step leaves each lent buffer as long as it is. Assumes nothing.
use Prim.Native.Nat.{ℕ, ◌*◌, ◌≤◌}
use mathlib.Core.Bool.{Bool, true, false, cond}
use mathlib.Core.List.{List}
use lib.Dec.{eqb}
use lib.Ieee.{Float}
use lib.ListN.{length}
use Rattle.std.specs.Prelude.{Some, None}
use Rattle.stored.specs.Stored.{Floor}
use Rattle.steps.specs.Steps.{steps_from}
use Rattle.steps.specs.World.{is_in_goal}
use Rattle.queue.specs.Queue.{none}
use Rattle.places.specs.Layout.{node_at, least_in, f_at}
use Rattle.seen.specs.declared.Entry.{Entry}
use Rattle.seen.specs.declared.Entry.TheVariants.{New, Seen, NoRoom}
use Rattle.seen.specs.Table.{key_of, Remembered, remembered}
use Rattle.machine.specs.declared.Task.{Task}
use Rattle.machine.specs.declared.Finish.TheVariants.{Arrived, Emptied, Filled}
use Rattle.machine.specs.Search.{State, Making, stepping, counted, is_beaten, origin_at, made_all, after_making, pursued, popped, Searching, turning}
use Rattle.machine.specs.Search.{watched, met, visited, step}
use Rattle.making.proofs.Looping.{AsLong, long_same, long_then, long_queued, long_made_all}

module _ (f : Floor) (t : Task) where
  long_after : (s : State) (m : Making) → AsLong m.state s → AsLong (after_making f t m).state s
  long_after s m h = go m.full
    where
      go : (b : Bool) → AsLong (cond b (stepping m.state (Some Filled)) (stepping m.state None)).state s
      go true = h
      go false = h

  long_pursued : (s : State) (i : ℕ) → 2 * t.places ≤ length s.work.queue → AsLong (pursued f t s i).state s
  unfolding pursued
  long_pursued s i room = go (is_in_goal t.trip.to (node_at s.work i))
    where
      m : Making
      m = made_all f t s (origin_at s.work i) (steps_from f t.trip.to (node_at s.work i))

      go : (b : Bool) → AsLong (cond b (stepping s (Some (Arrived i))) (after_making f t m)).state s
      go true = long_same s
      go false = long_after s m (long_made_all f t s (origin_at s.work i) (steps_from f t.trip.to (node_at s.work i)) room)

  long_met : (x : Searching) (i : ℕ) (e : Entry) (table : List ℕ) → 2 * t.places ≤ length x.state.work.queue
      → AsLong (met f t x i e table).search.state x.state
  long_met x i New table room = long_pursued x.state i room
  long_met x i Seen table room = long_same x.state
  long_met x i NoRoom table room = long_same x.state

  long_visited : (x : Searching) (i : ℕ) → 2 * t.places ≤ length x.state.work.queue → AsLong (visited f t x i).search.state x.state
  unfolding visited
  long_visited x i room = go (is_beaten x.state (node_at x.state.work i))
    where
      r : Remembered
      r = remembered x.stall.recording x.table (key_of (node_at x.state.work i))

      go : (b : Bool) → AsLong (cond b (turning x None) (met f t x i r.entry r.table)).search.state x.state
      go true = long_same x.state
      go false = long_met x i r.entry r.table room

  long_next : (x : Searching) (i : ℕ) (value : Float) → 2 * t.places ≤ length x.state.work.queue
      → AsLong (watched x (popped f t x.state i) value).state x.state
  unfolding watched popped
  long_next x i value room = long_queued t.places x.state (counted x.state.counts) i false room

  pub long_step : (x : Searching) → 2 * t.places ≤ length x.state.work.queue → AsLong (step f t x).search.state x.state
  unfolding step
  long_step x room = go (eqb i none)
    where
      i : ℕ
      i = least_in t.places x.state.work

      next : Searching
      next = watched x (popped f t x.state i) (f_at x.state.work i)

      once : AsLong next.state x.state
      once = long_next x i (f_at x.state.work i) room

      go : (b : Bool) → AsLong (cond b (turning x (Some Emptied)) (visited f t next i)).search.state x.state
      go true = long_same x.state
      go false = long_then (long_visited next i (rw once.queue_long room)) once
