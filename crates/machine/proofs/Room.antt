-- With as many entries in the table as there are places no node finds the table full: each pop enters one node at most, and the counted steps are fewer than
-- the places. Rests on specs/Sound and on seen/specs/Kept. Assumes nothing.
use Prim.Native.Nat.{ℕ, ◌+◌, ◌≤◌}
use native.Mathlib.Omega.{arith}
use mathlib.Core.Path.{◌≡◌, refl, sym, ap, ◌∙◌, subst}
use mathlib.Core.Bool.{Bool, true, false, cond}
use mathlib.Core.List.{List, [], ◌∷◌}
use mathlib.Core.Logic.{◌⊎◌, inl, inr}
use lib.ListN.{length}
use Rattle.std.specs.Prelude.{Option, Some, None}
use Rattle.machine.specs.declared.Finish.{Finish}
use Rattle.float.proofs.Tests.{untrue}
use Rattle.stored.specs.Stored.{Floor}
use Rattle.steps.specs.Steps.{steps_from}
use Rattle.steps.specs.World.{is_in_goal}
use Rattle.places.specs.Layout.{node_at}
use Rattle.seen.specs.declared.Entry.{Entry}
use Rattle.seen.specs.declared.Entry.TheVariants.{New, Seen, NoRoom}
use Rattle.seen.specs.Table.{key_of, entries_in, laid_out, Remembered, remembered}
use Rattle.seen.specs.Kept.{IsKey, Kept, laid}
use Rattle.seen.proofs.Entries.{laid_entries}
use Rattle.seen.proofs.Remembering.{remembered_entries, kept_remembered_keys}
use Rattle.machine.specs.declared.Task.{Task}
use Rattle.machine.specs.declared.Stall.{Stall}
use Rattle.machine.specs.declared.Finish.TheVariants.{Arrived, Emptied, Filled, Crowded}
use Rattle.machine.specs.Search.{State, Making, stepping, Searching, turning, is_beaten, origin_at, made_all, pursued}
use Rattle.machine.specs.Search.{table_after, met, visited}

-- ---- how many keys a table holds

-- at most so many
pub record Holds (table : List ℕ) (most : ℕ) : Type 0 where
  pub keys : List (List ℕ)
  pub kept : Kept keys table
  pub few : length keys ≤ most

-- no more than were popped
abbrev pub Spare : Searching → Type 0
Spare x = x.stall.recording ≡ true → Holds x.table x.state.counts.pops

-- when a pop is noticed, none is entered yet
pub holds_after : (before after : Stall) (table : List ℕ) (most : ℕ) → (before.recording ≡ true → Holds table most) → after.recording ≡ true
    → Holds (table_after before after table) most
unfolding table_after
holds_after before after table most h = go before.recording after.recording h
  where
    go : (a b : Bool) → (a ≡ true → Holds table most) → b ≡ true → Holds (cond a table (cond b (laid_out table) table)) most
    go true b h e = h refl
    go false true h e = record { keys = []; kept = laid table; few = omega arith }
    go false false h e = untrue e

-- a node that is looked up is one more at most
pub holds_remembered : (recording : Bool) (table key : List ℕ) (most : ℕ) → recording ≡ true → Holds table most → IsKey key
    → Holds (remembered recording table key).table (most + 1)
holds_remembered recording table key most e h k =
    subst (λ (b : Bool). Holds (remembered b table key).table (most + 1)) (sym e) (go (kept_remembered_keys h.kept k))
  where
    more : (after : List (List ℕ)) → (after ≡ h.keys) ⊎ (after ≡ key ∷ h.keys) → length after ≤ most + 1
    more after (inl same) = rw same (omega (arith, h.few))
    more after (inr one) = rw one (omega (arith, h.few))

    go : (after : List (List ℕ)) × ((after ≡ h.keys) ⊎ (after ≡ key ∷ h.keys)) × Kept after (remembered true table key).table
        → Holds (remembered true table key).table (most + 1)
    go p = record { keys = p.0; kept = p.2; few = more p.0 p.1 }

-- ---- as many entries as there were

pub entries_after : (before after : Stall) (table : List ℕ) → entries_in (table_after before after table) ≡ entries_in table
unfolding table_after
entries_after before after table = go before.recording after.recording
  where
    go : (a b : Bool) → entries_in (cond a table (cond b (laid_out table) table)) ≡ entries_in table
    go true b = refl
    go false true = laid_entries table
    go false false = refl

module _ (f : Floor) (t : Task) where
  pub table_met : (x : Searching) (i : ℕ) (e : Entry) (table : List ℕ) → (met f t x i e table).search.table ≡ table
  table_met x i New table = refl
  table_met x i Seen table = refl
  table_met x i NoRoom table = refl

  pub entries_visited : (x : Searching) (i : ℕ) → entries_in (visited f t x i).search.table ≡ entries_in x.table
  unfolding visited
  entries_visited x i = go (is_beaten x.state (node_at x.state.work i))
    where
      r : Remembered
      r = remembered x.stall.recording x.table (key_of (node_at x.state.work i))

      go : (b : Bool) → entries_in (cond b (turning x None) (met f t x i r.entry r.table)).search.table ≡ entries_in x.table
      go true = refl
      go false =
          ap entries_in (table_met x i r.entry r.table) ∙ remembered_entries x.stall.recording x.table (key_of (node_at x.state.work i))

  -- ---- a node that is new does not end the search so

  pub goes_not : {A : Type 0} → ◌≡◌ {A = Option Finish} None (Some Crowded) → A
  goes_not e = let z : ◌≡◌ {A = ℕ} 0 1 = cc in absurd (omega arith)

  arrives_not : {A : Type 0} (i : ℕ) → ◌≡◌ {A = Option Finish} (Some (Arrived i)) (Some Crowded) → A
  arrives_not i e = let z : ◌≡◌ {A = ℕ} 0 1 = cc in absurd (omega arith)

  fills_not : {A : Type 0} → ◌≡◌ {A = Option Finish} (Some Filled) (Some Crowded) → A
  fills_not e = let z : ◌≡◌ {A = ℕ} 0 1 = cc in absurd (omega arith)

  pub empties_not : {A : Type 0} → ◌≡◌ {A = Option Finish} (Some Emptied) (Some Crowded) → A
  empties_not e = let z : ◌≡◌ {A = ℕ} 0 1 = cc in absurd (omega arith)

  pub pursued_not : (s : State) (i : ℕ) → (pursued f t s i).outcome ≡ Some Crowded → ⊥
  unfolding pursued
  pursued_not s i = go (is_in_goal t.trip.to (node_at s.work i)) m.full
    where
      m : Making
      m = made_all f t s (origin_at s.work i) (steps_from f t.trip.to (node_at s.work i))

      go : (b c : Bool) → (cond b (stepping s (Some (Arrived i))) (cond c (stepping m.state (Some Filled)) (stepping m.state None))).outcome
          ≡ Some Crowded → ⊥
      go true c e = arrives_not i e
      go false true e = fills_not e
      go false false e = goes_not e
