-- A search ends with the table full exactly in its case. Rests on specs/Crowded. Assumes nothing.
use Prim.Native.Nat.{ℕ, zero, suc}
use native.Mathlib.Omega.{arith}
use mathlib.Core.Path.{◌≡◌, refl, ap, ◌∙◌}
use mathlib.Core.Bool.{Bool, true, false, cond}
use mathlib.Core.List.{List}
use mathlib.Core.Logic.{◌↔◌, inl, inr}
use lib.Dec.{eqb}
use Rattle.std.specs.Prelude.{Option, Some, None}
use Rattle.stored.specs.Stored.{Floor}
use Rattle.steps.specs.declared.Node.{Node}
use Rattle.queue.specs.Queue.{none}
use Rattle.places.specs.Layout.{node_at, least_in}
use Rattle.seen.specs.declared.Entry.{Entry}
use Rattle.seen.specs.declared.Entry.TheVariants.{New, Seen, NoRoom}
use Rattle.seen.specs.Table.{key_of, is_seen, is_full, entered, Remembered, remembered_of, remembered}
use Rattle.machine.specs.declared.Task.{Task}
use Rattle.machine.specs.declared.Finish.{Finish}
use Rattle.machine.specs.declared.Finish.TheVariants.{Emptied, Stopped, Crowded}
use Rattle.machine.specs.Search.{Searching, turning, closing, is_beaten, met, visited, step, onwards, run}
use Rattle.machine.specs.Crowded.{next_place, after_pop, Crowds, CrowdsWithin}
use Rattle.machine.proofs.Room.{goes_not, empties_not, pursued_not}

-- ---- the table says that it is full

pub record Refuses (recording : Bool) (table key : List ℕ) : Type 0 where
  pub records : recording ≡ true
  pub unseen : is_seen table key ≡ false
  pub full : is_full table ≡ true

refuses_exactly : (recording : Bool) (table key : List ℕ) → (remembered recording table key).entry ≡ NoRoom ↔ Refuses recording table key
unfolding remembered
refuses_exactly recording table key = (to recording (is_seen table key) (is_full table) refl refl refl, back)
  where
    by : Bool → Bool → Bool → Remembered
    by r a b = cond r (cond a (remembered_of Seen table) (cond b (remembered_of NoRoom table) (remembered_of New (entered table key)))) (remembered_of New table)

    to : (r a b : Bool) → recording ≡ r → is_seen table key ≡ a → is_full table ≡ b → (by r a b).entry ≡ NoRoom → Refuses recording table key
    to true true b x y z e = let w : ◌≡◌ {A = ℕ} 0 1 = cc in absurd (omega arith)
    to true false true x y z e = record { records = x; unseen = y; full = z }
    to true false false x y z e = let w : ◌≡◌ {A = ℕ} 0 1 = cc in absurd (omega arith)
    to false a b x y z e = let w : ◌≡◌ {A = ℕ} 0 1 = cc in absurd (omega arith)

    back : Refuses recording table key → (by recording (is_seen table key) (is_full table)).entry ≡ NoRoom
    back h = rw (h.records, h.unseen, h.full) refl

-- ---- a node, a step

module _ (f : Floor) (t : Task) where
  met_exactly : (x : Searching) (i : ℕ) (e : Entry) (table : List ℕ) → (met f t x i e table).outcome ≡ Some Crowded ↔ (e ≡ NoRoom)
  met_exactly x i New table = ((λ h. absurd (pursued_not f t x.state i h)), (λ h. let w : ◌≡◌ {A = ℕ} 0 1 = cc in absurd (omega arith)))
  met_exactly x i Seen table = ((λ h. goes_not f t h), (λ h. let w : ◌≡◌ {A = ℕ} 0 1 = cc in absurd (omega arith)))
  met_exactly x i NoRoom table = ((λ h. refl), (λ h. refl))

  module _ (x : Searching) where
    abbrev i : ℕ
    i = next_place f t x

    abbrev y : Searching
    y = after_pop f t x

    abbrev node : Node
    node = node_at y.state.work i

    abbrev told : Remembered
    told = remembered y.stall.recording y.table (key_of node)

    step_exactly : (step f t x).outcome ≡ Some Crowded ↔ Crowds f t x
    unfolding step visited
    step_exactly = (to (eqb i none) refl (is_beaten y.state node) refl, back)
      where
        by : Bool → Bool → Option Finish
        by a b = (cond a (turning x (Some Emptied)) (cond b (turning y None) (met f t y i told.entry told.table))).outcome

        to : (a : Bool) → eqb i none ≡ a → (b : Bool) → is_beaten y.state node ≡ b → by a b ≡ Some Crowded → Crowds f t x
        to true d b h e = empties_not f t e
        to false d true h e = goes_not f t e
        to false d false h e =
            let r = (refuses_exactly y.stall.recording y.table (key_of node)).0 ((met_exactly y i told.entry told.table).0 e) in
            record { pops = d; recording = r.records; unbeaten = h; unseen = r.unseen; full = r.full }

        back : Crowds f t x → by (eqb i none) (is_beaten y.state node) ≡ Some Crowded
        back h =
            let full = (refuses_exactly y.stall.recording y.table (key_of node)).1
            (record { records = h.recording; unseen = h.unseen; full = h.full }) in
            ap (λ (a : Bool). by a (is_beaten y.state node)) h.pops ∙ ap (λ (b : Bool). by false b) h.unbeaten
            ∙ (met_exactly y i told.entry told.table).1 full

  -- ---- a run

  finish_is : {a b : Finish} → ◌≡◌ {A = Option Finish} (Some a) (Some b) → a ≡ b
  finish_is e = cc

  pub crowded_within : (budget : ℕ) (x : Searching) → (run f t budget x).finish ≡ Crowded → CrowdsWithin f t budget x
  unfolding run
  crowded_within zero x = go (eqb (least_in t.places x.state.work) none)
    where
      go : (b : Bool) → (cond b (closing x Emptied) (closing x Stopped)).finish ≡ Crowded → CrowdsWithin f t zero x
      go true e = let w : ◌≡◌ {A = ℕ} 0 1 = cc in absurd (omega arith)
      go false e = let w : ◌≡◌ {A = ℕ} 0 1 = cc in absurd (omega arith)
  crowded_within (suc budget) x = go (step f t x).outcome refl (crowded_within budget)
    where
      go : (o : Option Finish) → (step f t x).outcome ≡ o
          → ((u : Searching) → (run f t budget u).finish ≡ Crowded → CrowdsWithin f t budget u)
          → (onwards f t (step f t x).search o (run f t budget)).finish ≡ Crowded → CrowdsWithin f t (suc budget) x
      go None d rest e = inr (d, rest (step f t x).search e)
      go (Some finish) d rest e = inl ((step_exactly x).0 (d ∙ ap Some e))

  pub within_crowded : (budget : ℕ) (x : Searching) → CrowdsWithin f t budget x → (run f t budget x).finish ≡ Crowded
  unfolding run
  within_crowded zero x h = absurd h
  within_crowded (suc budget) x (inl h) =
      ap (λ (o : Option Finish). (onwards f t (step f t x).search o (run f t budget)).finish) ((step_exactly x).1 h)
  within_crowded (suc budget) x (inr h) =
      ap (λ (o : Option Finish). (onwards f t (step f t x).search o (run f t budget)).finish) h.0 ∙ within_crowded budget (step f t x).search h.1
