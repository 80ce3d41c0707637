-- From a floor and a question to the judge: each way through the code is the definition's. Assumes nothing.
use Prim.Native.Nat.{ℕ}
use mathlib.Core.Path.{◌≡◌, sym, ◌∙◌}
use mathlib.Core.List.{List}
use lib.Dec.{lit<, lit≤}
use Rattle.std.specs.Prelude.{Result, Ok, Err}
use Rattle.floor.specs.declared.Refusal.{Refusal}
use Rattle.floor.specs.declared.Inside.{Inside}
use Rattle.stored.specs.Stored.{floor_of, question_of}
use Rattle.floor.specs.Look.{look_of, plan_after}
use Rattle.floor.proofs.Asking.{Looked, looked_inside}
use Rattle.route.specs.Judge.{judge_of}
use Rattle.steps.specs.declared.Trip.{Trip}
use Rattle.steps.specs.World.{trip_of, world_in}
use Rattle.judge.specs.declared.Unaccepted.{Unaccepted}
use Rattle.judge.specs.declared.Unaccepted.TheVariants.{Refused}
use Rattle.judge.specs.Verdict.{read_as, verdict_of}

-- what is known where a look with a plan finds start and goal inside
pub looked : {vs ps question plan : List ℕ} {look : Result Inside Refusal} {inside : Inside} (before : List ℕ) → look ≡ look_of 8 vs ps question
    → look ≡ Ok inside → plan ≡ plan_after 8 vs ps before → Looked 8 plan vs ps question inside.start inside.goal
looked before told e after = looked_inside 8 _ _ _ (lit< tt) (lit≤ tt) (sym told ∙ e) before after

module _ (slots : ℕ) (vs ps question route : List ℕ) {look : Result Inside Refusal} (looked : look ≡ look_of slots vs ps question) where
  -- inside: the slots are those that the plan has
  pub judges_inside : {inside : Inside} → look ≡ Ok inside → {s : ℕ} → s ≡ slots → {trip : Trip}
      → trip ≡ trip_of (question_of question) inside.start inside.goal
      → {verdict : Result Unit Unaccepted} → verdict ≡ read_as (judge_of (world_in (floor_of s vs ps) trip) route)
      → verdict ≡ verdict_of slots vs ps question route
  unfolding verdict_of
  judges_inside e s t v = v ∙ rw (s, t, ← looked, e)

  pub judges_refused : {r : Refusal} → look ≡ Err r → Err (Refused r) ≡ verdict_of slots vs ps question route
  unfolding verdict_of
  judges_refused e = rw (← looked, e)
