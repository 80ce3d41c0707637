-- A search that never stalls is document 01's, to the word, and leaves the table as it was lent; and no search stalls before its 514th pop. Rests on
-- specs/Search and specs/Before. Assumes nothing.
use Prim.Native.Nat.{ℕ, zero, suc}
use mathlib.Core.Path.{◌≡◌, refl, sym, ap, ◌∙◌}
use mathlib.Core.Bool.{Bool, true, false, cond}
use mathlib.Core.List.{List}
use lib.Dec.{eqb}
use Rattle.std.specs.Prelude.{Option, Some, None}
use Rattle.machine.specs.declared.Finish.{Finish}
use Rattle.stored.specs.Stored.{Floor}
use Rattle.steps.specs.declared.Node.{Node}
use Rattle.queue.specs.Queue.{none}
use Rattle.places.specs.Layout.{Work, node_at, least_in, f_at}
use Rattle.seen.specs.declared.Entry.{Entry}
use Rattle.seen.specs.declared.Entry.TheVariants.{New, Seen, NoRoom}
use Rattle.seen.specs.Table.{key_of, Remembered, remembered_of, remembered}
use Rattle.machine.specs.declared.Task.{Task}
use Rattle.machine.specs.declared.Stall.{Stall}
use Rattle.machine.specs.declared.Finish.TheVariants.{Emptied, Filled, Stopped}
use Rattle.machine.specs.Search.{State, Stepping, stepping, ending, Searching, searching, Turn, turning, closing, rest_of, rest_in, is_beaten}
use Rattle.machine.specs.Search.{pursued, popped, outset, calm, noticed, table_after, watched, met, visited, step, onwards, run, searched_from}
use Rattle.machine.specs.Before.{visited_before, step_before, onwards_before, run_before, searched_before}
use Rattle.machine.proofs.Recording.{noticed_before}

table_stays : (before after : Stall) (table : List ℕ) → before.recording ≡ false → after.recording ≡ false → table_after before after table ≡ table
unfolding table_after
table_stays before after table e d = rw (e, d)

nothing_remembered : (recording : Bool) (table key : List ℕ) → recording ≡ false → remembered recording table key ≡ remembered_of New table
unfolding remembered
nothing_remembered recording table key e = rw e

-- a step of the search and one of document 01's, which leave the same, and a table that is as it was
pub record Alike (turn : Turn) (was : Stepping) (table : List ℕ) : Type 0 where
  pub state_same : turn.search.state ≡ was.state
  pub outcome_same : turn.outcome ≡ was.outcome
  pub table_same : turn.search.table ≡ table

module _ (f : Floor) (t : Task) where
  stall_met : (x : Searching) (i : ℕ) (e : Entry) (table : List ℕ) → (met f t x i e table).search.stall ≡ x.stall
  stall_met x i New table = refl
  stall_met x i Seen table = refl
  stall_met x i NoRoom table = refl

  pub stall_visited : (x : Searching) (i : ℕ) → (visited f t x i).search.stall ≡ x.stall
  unfolding visited
  stall_visited x i = go (is_beaten x.state (node_at x.state.work i))
    where
      r : Remembered
      r = remembered x.stall.recording x.table (key_of (node_at x.state.work i))

      go : (b : Bool) → (cond b (turning x None) (met f t x i r.entry r.table)).search.stall ≡ x.stall
      go true = refl
      go false = stall_met x i r.entry r.table

  -- ---- a step that does not record

  calm_visited : (x : Searching) (i : ℕ) → x.stall.recording ≡ false
      → visited f t x i ≡ turning (searching (visited_before f t x.state i).state x.stall x.table) (visited_before f t x.state i).outcome
  unfolding visited visited_before
  calm_visited x i e =
      ap (λ (r : Remembered). cond (is_beaten x.state node) (turning x None) (met f t x i r.entry r.table))
      (nothing_remembered x.stall.recording x.table (key_of node) e)
      ∙ go (is_beaten x.state node)
    where
      node : Node
      node = node_at x.state.work i

      on : Stepping
      on = pursued f t x.state i

      go : (b : Bool) → cond b (turning x None) (turning (searching on.state x.stall x.table) on.outcome)
          ≡ turning (searching (cond b (stepping x.state None) on).state x.stall x.table) (cond b (stepping x.state None) on).outcome
      go true = refl
      go false = refl

  module _ (x : Searching) where
    abbrev least : ℕ
    least = least_in t.places x.state.work

    abbrev next : Searching
    next = watched x (popped f t x.state least) (f_at x.state.work least)

    next_stall : next.stall ≡ noticed x.stall (f_at x.state.work least)
    unfolding watched
    next_stall = refl

    next_before : next.stall.recording ≡ false → x.stall.recording ≡ false
    next_before e = noticed_before x.stall (f_at x.state.work least) (rw next_stall at e)

    next_table : next.stall.recording ≡ false → next.table ≡ x.table
    unfolding watched
    next_table e = table_stays x.stall (noticed x.stall (f_at x.state.work least)) x.table (next_before e) e

    next_state : next.state ≡ popped f t x.state least
    unfolding watched
    next_state = refl

    recording_step : (step f t x).search.stall.recording ≡ false → x.stall.recording ≡ false
    unfolding step
    recording_step = go (eqb least none)
      where
        go : (b : Bool) → (cond b (turning x (Some Emptied)) (visited f t next least)).search.stall.recording ≡ false → x.stall.recording ≡ false
        go true e = e
        go false e = next_before (ap (λ (s : Stall). s.recording) (sym (stall_visited next least)) ∙ e)

    -- it steps as document 01's search does
    calm_step : (step f t x).search.stall.recording ≡ false → Alike (step f t x) (step_before f t x.state) x.table
    unfolding step step_before
    calm_step = go (eqb least none)
      where
        go : (b : Bool) → (cond b (turning x (Some Emptied)) (visited f t next least)).search.stall.recording ≡ false
            → Alike (cond b (turning x (Some Emptied)) (visited f t next least))
            (cond b (stepping x.state (Some Emptied)) (visited_before f t (popped f t x.state least) least)) x.table
        go true e = record { state_same = refl; outcome_same = refl; table_same = refl }
        go false e =
            let quiet = ap (λ (s : Stall). s.recording) (sym (stall_visited next least)) ∙ e in
            let same = calm_visited next least quiet in
            let before = ap (λ (s : State). visited_before f t s least) next_state in
            record {
              state_same = ap (λ (y : Turn). y.search.state) same ∙ ap (λ (y : Stepping). y.state) before;
              outcome_same = ap (λ (y : Turn). y.outcome) same ∙ ap (λ (y : Stepping). y.outcome) before;
              table_same = ap (λ (y : Turn). y.search.table) same ∙ next_table quiet;
            }

  -- ---- a run that does not record

  recording_run : (budget : ℕ) (x : Searching) → (run f t budget x).search.stall.recording ≡ false → x.stall.recording ≡ false
  unfolding run
  recording_run zero x = go (eqb (least_in t.places x.state.work) none)
    where
      go : (b : Bool) → (cond b (closing x Emptied) (closing x Stopped)).search.stall.recording ≡ false → x.stall.recording ≡ false
      go true e = e
      go false e = e
  recording_run (suc budget) x = go (step f t x).outcome (recording_run budget)
    where
      after : Searching
      after = (step f t x).search

      go : (o : Option Finish) → ((u : Searching) → (run f t budget u).search.stall.recording ≡ false → u.stall.recording ≡ false)
          → (onwards f t after o (run f t budget)).search.stall.recording ≡ false → x.stall.recording ≡ false
      go None rest e = recording_step x (rest after e)
      go (Some finish) rest e = recording_step x e

  pub calm_run : (budget : ℕ) (x : Searching) → (run f t budget x).search.stall.recording ≡ false
      → rest_in (run f t budget x) ≡ rest_of (run_before f t budget x.state) x.table
  unfolding run run_before
  calm_run zero x = go (eqb (least_in t.places x.state.work) none)
    where
      go : (b : Bool) → (cond b (closing x Emptied) (closing x Stopped)).search.stall.recording ≡ false
          → rest_in (cond b (closing x Emptied) (closing x Stopped)) ≡ rest_of (cond b (ending x.state Emptied) (ending x.state Stopped)) x.table
      go true e = refl
      go false e = refl
  calm_run (suc budget) x = go (step f t x).outcome refl (calm_run budget)
    where
      after : Searching
      after = (step f t x).search

      was : Stepping
      was = step_before f t x.state

      go : (o : Option Finish) → (step f t x).outcome ≡ o
          → ((u : Searching) → (run f t budget u).search.stall.recording ≡ false
          → rest_in (run f t budget u) ≡ rest_of (run_before f t budget u.state) u.table)
          → (onwards f t after o (run f t budget)).search.stall.recording ≡ false
          → rest_in (onwards f t after o (run f t budget)) ≡ rest_of (onwards_before f t was.state was.outcome (run_before f t budget)) x.table
      go None d rest e =
          let same = calm_step x (recording_run budget after e) in
          rest after e ∙ rw (same.state_same, same.table_same, ← same.outcome_same, d) refl
      go (Some finish) d rest e =
          let same = calm_step x e in
          rw (same.state_same, same.table_same, ← same.outcome_same, d) refl

  pub calm_searched : (budget : ℕ) (w : Work) (table : List ℕ) → (searched_from f t budget w table).search.stall.recording ≡ false
      → rest_in (searched_from f t budget w table) ≡ rest_of (searched_before f t budget w) table
  unfolding searched_from searched_before
  calm_searched budget w table = go (outset f t w).full
    where
      x : Searching
      x = searching (outset f t w).state calm table

      go : (b : Bool) → (cond b (closing x Filled) (run f t budget x)).search.stall.recording ≡ false
          → rest_in (cond b (closing x Filled) (run f t budget x)) ≡ rest_of (cond b (ending x.state Filled) (run_before f t budget x.state)) table
      go true e = refl
      go false e = calm_run budget x e
