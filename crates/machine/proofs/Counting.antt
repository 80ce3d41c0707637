-- A step counts one, and making nodes counts none. Assumes nothing.
use Prim.Native.Nat.{ℕ, ◌+◌, ◌≤◌}
use native.Mathlib.Omega.{arith}
use mathlib.Core.Path.{◌≡◌, refl, ◌∙◌}
use mathlib.Core.Bool.{Bool, true, false, cond, ◌||◌}
use mathlib.Core.List.{List, [], ◌∷◌}
use lib.Dec.{leb, ltb, eqb}
use lib.Ieee.{Float, binary32, add, is_nan}
use Rattle.std.specs.Prelude.{Some, None}
use Rattle.helpers.specs.Helpers.{heuristic_of}
use Rattle.stored.specs.Stored.{Floor}
use Rattle.route.specs.declared.Step.{Step}
use Rattle.route.specs.Step.{kind_number}
use Rattle.steps.specs.declared.Node.{Node}
use Rattle.steps.specs.Steps.{steps_from, enter}
use Rattle.steps.specs.World.{is_in_goal}
use Rattle.queue.specs.Queue.{none}
use Rattle.machine.specs.declared.Task.{Task}
use Rattle.machine.specs.declared.Origin.{Origin}
use Rattle.machine.specs.declared.Finish.TheVariants.{Arrived, Emptied, Filled}
use Rattle.places.specs.Layout.{node_at, record_for, put_queued, least_in, f_at}
use Rattle.seen.specs.declared.Entry.{Entry}
use Rattle.seen.specs.declared.Entry.TheVariants.{New, Seen, NoRoom}
use Rattle.seen.specs.Table.{key_of, Remembered, remembered}
use Rattle.machine.specs.Search.{State, state_of, Making, making, stepping, took_place, took_record, counted, recorded, queued, is_beaten, kept, placed}
use Rattle.machine.specs.Search.{taken, origin_at, made, made_all, after_making, pursued, popped, Searching, turning, watched, met, visited, step}
use Rattle.machine.proofs.Fitting.{recorded_found, recorded_new}

pub pops_recorded : (s : State) (node : Node) → (recorded s node).counts.pops ≡ s.counts.pops
unfolding recorded took_record
pops_recorded s node = go (ltb r s.counts.records)
  where
    r : ℕ
    r = record_for s.work.floats s.counts.records node.root

    go : (b : Bool) → (cond b (recorded_found s node) (recorded_new s node)).counts.pops ≡ s.counts.pops
    go true = refl
    go false = refl

pub pops_kept : (n : ℕ) (s : State) (i : ℕ) (node : Node) → (kept n s i node).counts.pops ≡ s.counts.pops
unfolding kept queued
pops_kept n s i node = go (is_beaten s node)
  where
    after : State
    after = recorded s node

    go : (b : Bool) → (cond b s (state_of (put_queued n after.work i true) after.counts)).counts.pops ≡ s.counts.pops
    go true = refl
    go false = pops_recorded s node

pops_taken : (n : ℕ) (s : State) (o : Origin) (kind : ℕ) (node : Node) (f : Float) → (taken n s o kind node f).counts.pops ≡ s.counts.pops
unfolding taken placed took_place
pops_taken n s o kind node f = pops_kept n (placed s o kind node f) s.counts.taken node

module _ (f : Floor) (t : Task) where
  pops_made : (s : State) (o : Origin) (step : Step) → (made f.vertices t s o step).state.counts.pops ≡ s.counts.pops
  unfolding made
  pops_made s o step = go (is_nan node.length || is_nan (heuristic_of node.root t.trip.goal node.interval)) (leb t.places s.counts.taken)
    where
      node : Node
      node = enter f.vertices o.node step

      value : Float
      value = add binary32 node.length (heuristic_of node.root t.trip.goal node.interval)

      go : (a b : Bool)
          → (cond a (making s false)
          (cond b (making s true) (making (taken t.places s o (kind_number step.kind) node value) false))).state.counts.pops
          ≡ s.counts.pops
      go true b = refl
      go false true = refl
      go false false = pops_taken t.places s o (kind_number step.kind) node value

  pub pops_made_all : (steps : List Step) (s : State) (o : Origin) → (made_all f t s o steps).state.counts.pops ≡ s.counts.pops
  unfolding made_all
  pops_made_all [] s o = refl
  pops_made_all (step ∷ steps) s o = go (made f.vertices t s o step).full (pops_made_all steps (made f.vertices t s o step).state o)
    where
      m : Making
      m = made f.vertices t s o step

      go : (b : Bool) → (made_all f t m.state o steps).state.counts.pops ≡ m.state.counts.pops
          → (cond b m (made_all f t m.state o steps)).state.counts.pops ≡ s.counts.pops
      go true rest = pops_made s o step
      go false rest = rest ∙ pops_made s o step

  pops_after : (m : Making) → (after_making f t m).state.counts.pops ≡ m.state.counts.pops
  pops_after m = go m.full
    where
      go : (b : Bool) → (cond b (stepping m.state (Some Filled)) (stepping m.state None)).state.counts.pops ≡ m.state.counts.pops
      go true = refl
      go false = refl

  pub pops_pursued : (s : State) (i : ℕ) → (pursued f t s i).state.counts.pops ≡ s.counts.pops
  unfolding pursued
  pops_pursued s i = go (is_in_goal t.trip.to (node_at s.work i))
    where
      m : Making
      m = made_all f t s (origin_at s.work i) (steps_from f t.trip.to (node_at s.work i))

      go : (b : Bool) → (cond b (stepping s (Some (Arrived i))) (after_making f t m)).state.counts.pops ≡ s.counts.pops
      go true = refl
      go false = pops_after m ∙ pops_made_all (steps_from f t.trip.to (node_at s.work i)) s (origin_at s.work i)

  pops_met : (x : Searching) (i : ℕ) (e : Entry) (table : List ℕ) → (met f t x i e table).search.state.counts.pops ≡ x.state.counts.pops
  pops_met x i New table = pops_pursued x.state i
  pops_met x i Seen table = refl
  pops_met x i NoRoom table = refl

  pub pops_visited : (x : Searching) (i : ℕ) → (visited f t x i).search.state.counts.pops ≡ x.state.counts.pops
  unfolding visited
  pops_visited x i = go (is_beaten x.state (node_at x.state.work i))
    where
      r : Remembered
      r = remembered x.stall.recording x.table (key_of (node_at x.state.work i))

      go : (b : Bool) → (cond b (turning x None) (met f t x i r.entry r.table)).search.state.counts.pops ≡ x.state.counts.pops
      go true = refl
      go false = pops_met x i r.entry r.table

  pub pops_next : (x : Searching) (i : ℕ) (value : Float) → (watched x (popped f t x.state i) value).state.counts.pops ≡ x.state.counts.pops + 1
  unfolding watched popped counted
  pops_next x i value = refl

  -- "count one"
  pub pops_step : (x : Searching) → (step f t x).search.state.counts.pops ≤ x.state.counts.pops + 1
  unfolding step
  pops_step x = go (eqb i none)
    where
      i : ℕ
      i = least_in t.places x.state.work

      next : Searching
      next = watched x (popped f t x.state i) (f_at x.state.work i)

      go : (b : Bool) → (cond b (turning x (Some Emptied)) (visited f t next i)).search.state.counts.pops ≤ x.state.counts.pops + 1
      go true = omega arith
      go false = omega (arith, pops_visited next i, pops_next x i (f_at x.state.work i))
