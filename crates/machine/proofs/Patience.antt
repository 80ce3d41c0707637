-- The first pop raises last_f, and no search records before its 514th. Rests on specs/Sound. Assumes nothing.
use Prim.Native.Nat.{ℕ, zero, suc, ◌+◌, ◌≤◌, ◌<◌}
use native.Mathlib.Decide.{dec_lt}
use native.Mathlib.Omega.{arith}
use mathlib.Core.Path.{◌≡◌, refl, sym, ap, ◌∙◌, subst}
use mathlib.Core.Bool.{Bool, true, false, not, cond}
use mathlib.Core.List.{List}
use borrow.Author.Tests.{ltb-true}
use lib.Dec.{T, eqb, ltb}
use lib.Ieee.{Float, nan, inf, fin, lt, is_nan}
use Rattle.std.specs.Prelude.{Option, Some, None}
use Rattle.machine.specs.declared.Finish.{Finish}
use Rattle.float.proofs.Tests.{untrue}
use Rattle.plan.specs.Plan.{polygon_count_in}
use Rattle.stored.specs.Stored.{Floor, floor_in}
use Rattle.edges.specs.Ground.{Ground}
use Rattle.steps.specs.declared.Node.{Node}
use Rattle.steps.specs.Steps.{seed_node, steps_from}
use Rattle.queue.specs.Queue.{none}
use Rattle.places.specs.Layout.{Work, Room, least_in, f_at}
use Rattle.machine.specs.declared.Task.{Task}
use Rattle.machine.specs.declared.Stall.{Stall}
use Rattle.machine.specs.declared.Finish.TheVariants.{Emptied, Filled, Stopped}
use Rattle.machine.specs.Search.{Searching, searching, turning, closing, popped, begun, seed_origin, outset, patience, calm, noticed, watched, visited}
use Rattle.machine.specs.Search.{step, onwards, run, searched_from}
use Rattle.machine.specs.Sound.{is_plus, Sound}
use Rattle.machine.proofs.Counting.{pops_made_all, pops_visited, pops_next}
use Rattle.machine.proofs.Kept.{popped_queued}
use Rattle.machine.proofs.Turning.{sound_step}
use Rattle.machine.proofs.Begun.{sound_seeded}
use Rattle.machine.proofs.Calm.{stall_visited}

-- "last_f begins below every f"
pub below_every : (v : Float) → T (not (is_nan v)) → T (is_plus v) → lt (inf true) v ≡ true
unfolding lt is_nan
below_every nan a b = absurd a
below_every (inf false) a b = refl
below_every (inf true) a b = absurd b
below_every (fin false m e) a b = refl
below_every (fin true m e) a b = absurd b

-- "so the first pop raises it"
pub first_rises : (v : Float) → T (not (is_nan v)) → T (is_plus v) → noticed calm v ≡ record { last_f = v; count = 0; recording = false }
unfolding noticed
first_rises v a b = rw (below_every v a b)

-- ---- how long it was patient, after so many pops

pub record Patient (stall : Stall) (pops : ℕ) : Type 0 where
  pub begins : pops ≡ 0 → stall ≡ calm
  pub counted : stall.recording ≡ false → 0 < pops → stall.count + 1 ≤ pops
  pub late : stall.recording ≡ true → patience + 2 ≤ pops

patient_noticed : (s : Stall) (v : Float) (pops : ℕ) → T (not (is_nan v)) → T (is_plus v) → Patient s pops → Patient (noticed s v) (pops + 1)
patient_noticed s v pops a b h = go (dec_lt 0 pops)
  where
    risen : Stall
    risen = record { last_f = v; count = 0; recording = false }

    on : Bool → Stall
    on c = record { last_f = s.last_f; count = s.count + 1; recording = c }

    later : 0 < pops → (x y z : Bool) → s.recording ≡ x → ltb patience (s.count + 1) ≡ z → Patient (cond x s (cond y risen (on z))) (pops + 1)
    later some true y z e d = record {
      begins = λ p. absurd (omega arith);
      counted = λ p q. untrue (sym p ∙ e);
      late = λ p. let l = h.late e in omega arith;
    }
    later some false true z e d = record { begins = λ p. absurd (omega arith); counted = λ p q. omega arith; late = λ p. untrue p }
    later some false false z e d = record {
      begins = λ p. absurd (omega arith);
      counted = λ p q. let l = h.counted e some in omega arith;
      late = λ p. let l = h.counted e some in let m = ltb-true patience (s.count + 1) (d ∙ p) in omega arith;
    }

    go : Dec (0 < pops) → Patient (noticed s v) (pops + 1)
    go (yes some) = unfold noticed in later some s.recording (lt s.last_f v) (ltb patience (s.count + 1)) refl refl
    go (no none) =
        let first : noticed s v ≡ risen = ap (λ (u : Stall). noticed u v) (h.begins (omega arith)) ∙ first_rises v a b in
        subst (λ (u : Stall). Patient u (pops + 1)) (sym first)
        (record { begins = λ p. absurd (omega arith); counted = λ p q. omega arith; late = λ p. untrue p })

abbrev PatientSearch : Searching → Type 0
PatientSearch x = Patient x.stall x.state.counts.pops

module _ (plan vs ps : List ℕ) (t : Task) (seed : Node) (g : Ground plan vs ps) where
  abbrev f : Floor
  f = floor_in plan vs ps

  patient_step : (x : Searching) → Sound plan vs ps t seed x.state → PatientSearch x → PatientSearch (step f t x).search
  unfolding step
  patient_step x h p = go (eqb i none) refl
    where
      i : ℕ
      i = least_in t.places x.state.work

      value : Float
      value = f_at x.state.work i

      next : Searching
      next = watched x (popped f t x.state i) value

      next_stall : next.stall ≡ noticed x.stall value
      next_stall = unfold watched in refl

      go : (b : Bool) → eqb i none ≡ b → PatientSearch (cond b (turning x (Some Emptied)) (visited f t next i)).search
      go true e = p
      go false e =
          let q = popped_queued plan vs ps t seed g x.state h e in
          let patient = patient_noticed x.stall value x.state.counts.pops (h.no_nan i q.0 q.1) (h.no_minus i q.0 q.1) p in
          rw (stall_visited f t next i, pops_visited f t next i, pops_next f t x i value, next_stall) patient

  patient_run : (budget : ℕ) (x : Searching) → Sound plan vs ps t seed x.state → PatientSearch x → PatientSearch (run f t budget x).search
  unfolding run
  patient_run zero x h p = go (eqb (least_in t.places x.state.work) none)
    where
      go : (b : Bool) → PatientSearch (cond b (closing x Emptied) (closing x Stopped)).search
      go true = p
      go false = p
  patient_run (suc budget) x h p =
      go (step f t x).outcome (sound_step plan vs ps t seed g x h).sound (patient_step x h p) (patient_run budget)
    where
      after : Searching
      after = (step f t x).search

      go : (o : Option Finish) → Sound plan vs ps t seed after.state → PatientSearch after
          → ((u : Searching) → Sound plan vs ps t seed u.state → PatientSearch u → PatientSearch (run f t budget u).search)
          → PatientSearch (onwards f t after o (run f t budget)).search
      go None h p rest = rest after h p
      go (Some finish) h p rest = p

-- ---- a search

module _ (plan vs ps : List ℕ) (t : Task) (g : Ground plan vs ps) (listed : t.trip.from < polygon_count_in plan) (w : Work) (room : Room t.places w)
    (places : 1 ≤ t.places) (budget : ℕ) (table : List ℕ) where
  abbrev floor : Floor
  floor = floor_in plan vs ps

  abbrev first : Node
  first = seed_node t.trip.start t.trip.from

  none_popped : (outset floor t w).state.counts.pops ≡ 0
  unfolding outset begun
  none_popped = pops_made_all floor t (steps_from floor t.trip.to first) (begun floor t first w) (seed_origin floor t first)

  patient_searched : PatientSearch (searched_from floor t budget w table).search
  unfolding searched_from
  patient_searched = go (outset floor t w).full
    where
      x : Searching
      x = searching (outset floor t w).state calm table

      begun_patient : PatientSearch x
      begun_patient = record { begins = λ p. refl; counted = λ p q. absurd (omega (arith, none_popped)); late = λ p. untrue p }

      go : (b : Bool) → PatientSearch (cond b (closing x Filled) (run floor t budget x)).search
      go true = begun_patient
      go false = patient_run plan vs ps t first g budget x (sound_seeded plan vs ps t g listed w room places) begun_patient

  -- a search that has popped 513 nodes or fewer does not record
  pub few_pops_calm : (searched_from floor t budget w table).search.state.counts.pops ≤ patience + 1
      → (searched_from floor t budget w table).search.stall.recording ≡ false
  few_pops_calm few = go (searched_from floor t budget w table).search.stall.recording refl
    where
      go : (b : Bool) → (searched_from floor t budget w table).search.stall.recording ≡ b → b ≡ false
      go true e = absurd (omega (arith, patient_searched.late e, few))
      go false e = refl
