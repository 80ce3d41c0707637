-- With as many entries as places no search ends with the table full. Rests on specs/Crowded, proofs/Room and proofs/Places. Assumes nothing.
use Prim.Native.Nat.{ℕ, zero, suc, ◌+◌, ◌≤◌, ◌<◌}
use native.Mathlib.Omega.{arith}
use mathlib.Core.Path.{◌≡◌, refl, sym, ap, ◌∙◌}
use mathlib.Core.Bool.{Bool, true, false, cond}
use mathlib.Core.List.{List}
use mathlib.Core.Logic.{inl, inr}
use lib.Dec.{eqb}
use Rattle.std.specs.Prelude.{Some, None}
use Rattle.float.proofs.Tests.{untrue}
use Rattle.plan.specs.Plan.{polygon_count_in}
use Rattle.stored.specs.Stored.{Floor, floor_in}
use Rattle.edges.specs.Ground.{Ground}
use Rattle.steps.specs.declared.Node.{Node}
use Rattle.steps.specs.Steps.{seed_node}
use Rattle.queue.specs.Queue.{none}
use Rattle.places.specs.Layout.{Work, Room, node_at, f_at}
use Rattle.seen.specs.Table.{key_of, entries_in, Remembered, remembered}
use Rattle.seen.proofs.Holding.{kept_full}
use Rattle.machine.specs.declared.Task.{Task}
use Rattle.machine.specs.declared.Stall.{Stall}
use Rattle.machine.specs.declared.Finish.TheVariants.{Emptied, Filled, Crowded}
use Rattle.machine.specs.Search.{Searching, searching, turning, closing, is_beaten, outset, calm, noticed, watched, met, visited, step, run, searched_from}
use Rattle.machine.specs.Sound.{Sound}
use Rattle.machine.specs.Crowded.{next_place, after_pop, Crowds, CrowdsWithin}
use Rattle.machine.proofs.Counting.{pops_visited, pops_next}
use Rattle.machine.proofs.Calm.{stall_visited}
use Rattle.machine.proofs.Turning.{place_key, next_sound, next_below, sound_step}
use Rattle.machine.proofs.Begun.{sound_seeded}
use Rattle.machine.proofs.Places.{Ahead, ahead_outset, ahead_step}
use Rattle.machine.proofs.Room.{Holds, Spare, holds_after, holds_remembered, entries_after, table_met, entries_visited}
use Rattle.machine.proofs.Exact.{crowded_within}

module _ (plan vs ps : List ℕ) (t : Task) (seed : Node) (g : Ground plan vs ps) where
  abbrev f : Floor
  f = floor_in plan vs ps

  module _ (x : Searching) (h : Sound plan vs ps t seed x.state) (spare : Spare x) where
    abbrev i : ℕ
    i = next_place f t x

    abbrev y : Searching
    y = after_pop f t x

    abbrev node : Node
    node = node_at y.state.work i

    abbrev told : Remembered
    told = remembered y.stall.recording y.table (key_of node)

    -- nothing was entered by this pop yet
    before : y.stall.recording ≡ true → Holds y.table x.state.counts.pops
    unfolding watched
    before = holds_after x.stall (noticed x.stall (f_at x.state.work i)) x.table x.state.counts.pops spare

    entries_next : entries_in y.table ≡ entries_in x.table
    unfolding watched
    entries_next = entries_after x.stall (noticed x.stall (f_at x.state.work i)) x.table

    pub never_here : Ahead t.places x.state → t.places ≤ entries_in x.table → Crowds f t x → ⊥
    never_here a enough c =
        let held = before c.recording in
        omega (arith, (kept_full held.kept).0 c.full, held.few, entries_next, a.ahead, h.taken_in, enough)

    -- by this pop one is entered at most
    holds_visited : eqb i none ≡ false → y.stall.recording ≡ true → Holds (visited f t y i).search.table (x.state.counts.pops + 1)
    unfolding visited
    holds_visited e r = go (is_beaten y.state node)
      where
        held : Holds y.table x.state.counts.pops
        held = before r

        met_table : Holds told.table (x.state.counts.pops + 1)
        met_table =
            holds_remembered y.stall.recording y.table (key_of node) x.state.counts.pops r held
            (place_key plan vs ps t seed y.state i (next_sound plan vs ps t seed g x h e) (next_below plan vs ps t seed g x h e))

        go : (b : Bool) → Holds (cond b (turning y None) (met f t y i told.entry told.table)).search.table (x.state.counts.pops + 1)
        go true = record { keys = held.keys; kept = held.kept; few = omega (arith, held.few) }
        go false = rw (table_met f t y i told.entry told.table) met_table

    spare_step : Spare (step f t x).search
    unfolding step
    spare_step = go (eqb i none) refl
      where
        go : (b : Bool) → eqb i none ≡ b → Spare (cond b (turning x (Some Emptied)) (visited f t y i)).search
        go true e r = spare r
        go false e r =
            let pops = pops_visited f t y i ∙ pops_next f t x i (f_at x.state.work i) in
            rw pops (holds_visited e (ap (λ (s : Stall). s.recording) (sym (stall_visited f t y i)) ∙ r))

    entries_step : entries_in (step f t x).search.table ≡ entries_in x.table
    unfolding step
    entries_step = go (eqb i none)
      where
        go : (b : Bool) → entries_in (cond b (turning x (Some Emptied)) (visited f t y i)).search.table ≡ entries_in x.table
        go true = refl
        go false = entries_visited f t y i ∙ entries_next

  never_within : (budget : ℕ) (x : Searching) → Sound plan vs ps t seed x.state → Spare x → Ahead t.places x.state
      → t.places ≤ entries_in x.table → CrowdsWithin f t budget x → ⊥
  never_within zero x h spare a enough c = c
  never_within (suc budget) x h spare a enough (inl c) = never_here x h spare a enough c
  never_within (suc budget) x h spare a enough (inr c) =
      never_within budget (step f t x).search (sound_step plan vs ps t seed g x h).sound (spare_step x h spare) (ahead_step plan vs ps t seed g x h a)
      (rw (entries_step x h spare) enough) c.1

-- ---- a search

module _ (plan vs ps : List ℕ) (t : Task) (g : Ground plan vs ps) (listed : t.trip.from < polygon_count_in plan) (w : Work) (room : Room t.places w)
    (places : 1 ≤ t.places) where
  abbrev floor : Floor
  floor = floor_in plan vs ps

  pub never_crowded : (budget : ℕ) (table : List ℕ) → t.places ≤ entries_in table → (searched_from floor t budget w table).finish ≡ Crowded → ⊥
  unfolding searched_from
  never_crowded budget table enough = go (outset floor t w).full
    where
      x : Searching
      x = searching (outset floor t w).state calm table

      go : (b : Bool) → (cond b (closing x Filled) (run floor t budget x)).finish ≡ Crowded → ⊥
      go true e = let z : ◌≡◌ {A = ℕ} 0 1 = cc in omega arith
      go false e =
          never_within plan vs ps t (seed_node t.trip.start t.trip.from) g budget x (sound_seeded plan vs ps t g listed w room places)
          (λ r. untrue r) (ahead_outset plan vs ps t g listed w room places) enough (crowded_within floor t budget x e)
