-- The theorems of the judge by document 01's numbers, for an accepted floor and a right question with start and goal inside: 0 exactly for the true
-- routes (demand 3), each of 20 to 23 exactly in its case, with its record; and an accepted file cut short anywhere, at any byte, is 20 or 23.
-- specs/Exactly has them as sentences. Rests on proofs/Exact. Assumes nothing.
use Prim.Native.Nat.{ℕ}
use native.Mathlib.Omega.{arith}
use mathlib.Core.Path.{◌≡◌, refl, sym, ap, ◌∙◌}
use mathlib.Core.List.{List, [], ◌∷◌}
use mathlib.Core.Logic.{◌↔◌, inl, inr, ⊎_elim}
use lib.ListN.{take, get_or}
use Rattle.word.specs.Word.{Bytes}
use Rattle.told.specs.Told.{number_of, values_of}
use Rattle.stored.specs.Stored.{floor_of, question_of}
use Rattle.std.specs.Prelude.{Result, Ok, Err}
use Rattle.route.specs.declared.Fault.{Fault}
use Rattle.route.specs.declared.Fault.TheVariants.{Length, NotSeed, NotStep, NotEnd}
use Rattle.route.specs.World.{World}
use Rattle.route.specs.Verdict.{Case}
use Rattle.route.specs.Judge.{judge_of, fault_told, judged_told}
use Rattle.route.proofs.Verdicts.{judged_exactly}
use Rattle.route.proofs.Cut.{cut_is_refused as cut-in-world}
use Rattle.steps.specs.declared.Node.{Node}
use Rattle.steps.specs.World.{world_of}
use Rattle.judge.specs.declared.Unaccepted.{Unaccepted}
use Rattle.judge.specs.Verdict.{read_as, verdict_of, unaccepted_told, verdict_told, verdict_number, verdict_record}
use Rattle.judge.specs.Exactly.{Inside, AcceptedExactly, LengthExactly, SeedExactly, StepExactly, EndExactly, CutIsRefused}
use Rattle.judge.proofs.Exact.{world_is_lawful, verdict_inside}

-- ---- what is told tells the verdicts on a route file apart

zero_is_accepted : (j : Result Unit Fault) → number_of (judged_told j) ≡ 0 → j ≡ Ok tt
unfolding judged_told fault_told number_of
zero_is_accepted (Ok u) e = refl
zero_is_accepted (Err Length) e = absurd (omega arith)
zero_is_accepted (Err NotSeed) e = absurd (omega arith)
zero_is_accepted (Err (NotStep i)) e = absurd (omega arith)
zero_is_accepted (Err (NotEnd i)) e = absurd (omega arith)

twenty_is_length : (j : Result Unit Fault) → number_of (judged_told j) ≡ 20 → j ≡ Err Length
unfolding judged_told fault_told number_of
twenty_is_length (Ok u) e = absurd (omega arith)
twenty_is_length (Err Length) e = refl
twenty_is_length (Err NotSeed) e = absurd (omega arith)
twenty_is_length (Err (NotStep i)) e = absurd (omega arith)
twenty_is_length (Err (NotEnd i)) e = absurd (omega arith)

twenty_one_is_seed : (j : Result Unit Fault) → number_of (judged_told j) ≡ 21 → j ≡ Err NotSeed
unfolding judged_told fault_told number_of
twenty_one_is_seed (Ok u) e = absurd (omega arith)
twenty_one_is_seed (Err Length) e = absurd (omega arith)
twenty_one_is_seed (Err NotSeed) e = refl
twenty_one_is_seed (Err (NotStep i)) e = absurd (omega arith)
twenty_one_is_seed (Err (NotEnd i)) e = absurd (omega arith)

-- the one record of a verdict
first_of : {i k : ℕ} → ◌≡◌ {A = List ℕ} (i ∷ []) (k ∷ []) → i ≡ k
first_of e = ap (λ (l : List ℕ). get_or l 0 0) e

twenty_two_is_step : (j : Result Unit Fault) (k : ℕ) → number_of (judged_told j) ≡ 22 → values_of (judged_told j) ≡ k ∷ [] → j ≡ Err (NotStep k)
unfolding judged_told fault_told number_of values_of
twenty_two_is_step (Ok u) k e r = absurd (omega arith)
twenty_two_is_step (Err Length) k e r = absurd (omega arith)
twenty_two_is_step (Err NotSeed) k e r = absurd (omega arith)
twenty_two_is_step (Err (NotStep i)) k e r = ap (λ (n : ℕ). Err (NotStep n)) (first_of r)
twenty_two_is_step (Err (NotEnd i)) k e r = absurd (omega arith)

twenty_three_is_end : (j : Result Unit Fault) (k : ℕ) → number_of (judged_told j) ≡ 23 → values_of (judged_told j) ≡ k ∷ [] → j ≡ Err (NotEnd k)
unfolding judged_told fault_told number_of values_of
twenty_three_is_end (Ok u) k e r = absurd (omega arith)
twenty_three_is_end (Err Length) k e r = absurd (omega arith)
twenty_three_is_end (Err NotSeed) k e r = absurd (omega arith)
twenty_three_is_end (Err (NotStep i)) k e r = absurd (omega arith)
twenty_three_is_end (Err (NotEnd i)) k e r = ap (λ (n : ℕ). Err (NotEnd n)) (first_of r)

-- ---- by numbers

module _ (s : ℕ) (vs ps question : List ℕ) (bytes : Bytes ps) (inside : Inside s vs ps question) where
  abbrev w : World Node
  w = world_of (floor_of s vs ps) (question_of question)

  abbrev verdict : List ℕ → Result Unit Unaccepted
  verdict route = verdict_of s vs ps question route

  told_as : (j : Result Unit Fault) → verdict_told (read_as j) ≡ judged_told j
  unfolding verdict_told unaccepted_told
  told_as (Ok u) = refl
  told_as (Err fault) = refl

  told_is : (route : List ℕ) → verdict_told (verdict route) ≡ judged_told (judge_of w route)
  told_is route = ap verdict_told (verdict_inside s vs ps question route inside) ∙ told_as (judge_of w route)

  number_is : (route : List ℕ) → verdict_number (verdict route) ≡ number_of (judged_told (judge_of w route))
  number_is route = ap number_of (told_is route)

  record_is : (route : List ℕ) → verdict_record (verdict route) ≡ values_of (judged_told (judge_of w route))
  record_is route = ap values_of (told_is route)

  case_is : (route : List ℕ) (j : Result Unit Fault) → judge_of w route ≡ j ↔ Case w route j
  case_is route j = judged_exactly (world_is_lawful s vs ps question bytes) route j

  -- what a verdict on the file is by its number and record
  says : (route : List ℕ) (j : Result Unit Fault) → Case w route j
      → (verdict_number (verdict route) ≡ number_of (judged_told j)) × (verdict_record (verdict route) ≡ values_of (judged_told j))
  says route j h = let e = told_is route ∙ ap judged_told ((case_is route j).1 h) in (ap number_of e, ap values_of e)

  module _ (route : List ℕ) where
    pub accepted_exactly : AcceptedExactly s vs ps question route
    unfolding judged_told fault_told number_of
    accepted_exactly = ((λ e. (case_is route (Ok tt)).0 (zero_is_accepted (judge_of w route) (sym (number_is route) ∙ e))), (λ h. (says route (Ok tt) h).0))

    pub length_exactly : LengthExactly s vs ps question route
    unfolding judged_told fault_told number_of
    length_exactly = (
      (λ e. (case_is route (Err Length)).0 (twenty_is_length (judge_of w route) (sym (number_is route) ∙ e))),
      (λ h. (says route (Err Length) h).0),
    )

    pub seed_exactly : SeedExactly s vs ps question route
    unfolding judged_told fault_told number_of
    seed_exactly = (
      (λ e. (case_is route (Err NotSeed)).0 (twenty_one_is_seed (judge_of w route) (sym (number_is route) ∙ e))),
      (λ h. (says route (Err NotSeed) h).0),
    )

    pub step_exactly : StepExactly s vs ps question route
    unfolding judged_told fault_told number_of values_of
    step_exactly k = (
      (λ e. (case_is route (Err (NotStep k))).0 (twenty_two_is_step (judge_of w route) k (sym (number_is route) ∙ e.0) (sym (record_is route) ∙ e.1))),
      says route (Err (NotStep k)),
    )

    pub end_exactly : EndExactly s vs ps question route
    unfolding judged_told fault_told number_of values_of
    end_exactly k = (
      (λ e. (case_is route (Err (NotEnd k))).0 (twenty_three_is_end (judge_of w route) k (sym (number_is route) ∙ e.0) (sym (record_is route) ∙ e.1))),
      says route (Err (NotEnd k)),
    )

    pub cut_is_refused : CutIsRefused s vs ps question route
    unfolding judged_told fault_told number_of values_of
    cut_is_refused e k l =
        ⊎_elim
        (λ h. inl (ap number_of (told_is (take k route) ∙ ap judged_told h)))
        (λ h. let e = told_is (take k route) ∙ ap judged_told h in inr (ap number_of e, ap values_of e))
        (cut-in-world (world_is_lawful s vs ps question bytes) route k l (zero_is_accepted (judge_of w route) (sym (number_is route) ∙ e)))
