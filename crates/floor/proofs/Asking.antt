-- What is known where a floor that was accepted is asked a question and finds start and goal inside: whatever searches, judges or reads out leans on it.
-- Assumes nothing.
use Prim.Native.Nat.{ℕ, ◌≤◌, ◌<◌}
use native.Mathlib.Omega.{arith}
use mathlib.Core.Path.{◌≡◌, refl, sym, ap, ◌∙◌, subst}
use mathlib.Core.Bool.{Bool, true, false, not, cond}
use mathlib.Core.List.{List}
use borrow.Author.Tests.{leb-false}
use lib.Dec.{leb}
use lib.ListN.{length}
use Rattle.std.proofs.lemmas.Grind.{merely}
use Rattle.std.specs.Prelude.{Result, Ok, Err}
use Rattle.plan.specs.Plan.{slots_in, polygon_count_in}
use Rattle.stored.specs.Stored.{Floor, floor_of, floor_in, question_of}
use Rattle.stored.proofs.Records.{polygons_counted}
use Rattle.faults.specs.Tests.{question_right}
use Rattle.edges.specs.Where.{polygon_of}
use Rattle.edges.specs.Ground.{Ground}
use Rattle.floor.specs.declared.Refusal.{Refusal}
use Rattle.floor.specs.declared.Refusal.TheVariants.{Question, StartOutside, GoalOutside}
use Rattle.floor.specs.declared.Inside.{Inside}
use Rattle.floor.specs.Look.{and_then, floor_look_of, ask_of, look_of, plan_after}
use Rattle.floor.proofs.Looked.{question_length}
use Rattle.floor.proofs.Planned.{grounded, slots_are as slots-are-its}

pub record Asking (plan vs ps question : List ℕ) (from to : ℕ) : Type 0 where
  pub right : question_right question ≡ true
  pub long : length question ≡ 16
  pub from_listed : from < polygon_count_in plan
  pub to_listed : to < polygon_count_in plan
  pub few : polygon_count_in plan ≤ 512
  pub from_is : polygon_of (floor_in plan vs ps) (question_of question).start ≡ from
  pub to_is : polygon_of (floor_in plan vs ps) (question_of question).goal ≡ to

not_inside : {A : Type 0} (r : Refusal) (found : Inside) → Err r ≡ Ok found → A
not_inside r found e = cc

is_found : (a b : Inside) → ◌≡◌ {A = Result Inside Refusal} (Ok a) (Ok b) → a ≡ b
is_found a b e = cc

pub asked_inside : {plan vs ps : List ℕ} → Ground plan vs ps → (question : List ℕ) {found : Inside} → ask_of (floor_in plan vs ps) question ≡ Ok found
    → Asking plan vs ps question found.start found.goal
unfolding ask_of
asked_inside {plan} {vs} {ps} g question {found} e = go (question_right question) refl (leb n a) refl (leb n b) refl e
  where
    f : Floor
    f = floor_in plan vs ps

    n : ℕ
    n = length f.polygons

    a : ℕ
    a = polygon_of f (question_of question).start

    b : ℕ
    b = polygon_of f (question_of question).goal

    go : (x : Bool) → question_right question ≡ x → (y : Bool) → leb n a ≡ y → (z : Bool) → leb n b ≡ z
        → cond (not x) (Err Question) (cond y (Err StartOutside) (cond z (Err GoalOutside) (Ok (record { start = a; goal = b })))) ≡ Ok found
        → Asking plan vs ps question found.start found.goal
    go false r y m z l e = not_inside Question found e
    go true r true m z l e = not_inside StartOutside found e
    go true r false m true l e = not_inside GoalOutside found e
    go true r false m false l e =
        let here : ◌≡◌ {A = Inside} (record { start = a; goal = b }) found = is_found _ _ e in
        let from : a ≡ found.start = ap (λ (i : Inside). i.start) here in
        let to : b ≡ found.goal = ap (λ (i : Inside). i.goal) here in
        record {
          right = r;
          long = question_length question r;
          from_listed = subst (λ (k : ℕ). found.start < k) (polygons_counted g.polygons_planned) (rw (← from) (leb-false n a m));
          to_listed = subst (λ (k : ℕ). found.goal < k) (polygons_counted g.polygons_planned) (rw (← to) (leb-false n b l));
          few = rw g.polygons_planned.counted g.polygons_planned.few;
          from_is = from;
          to_is = to;
        }

-- ---- after a look at a floor and a question

-- what a look with a plan leaves where it finds start and goal inside
pub record Looked (slots : ℕ) (plan vs ps question : List ℕ) (from to : ℕ) : Type 0 where
  pub ground : Ground plan vs ps
  pub slots_are : slots_in plan ≡ slots
  pub asking : Asking plan vs ps question from to

module _ (s : ℕ) (vs ps question : List ℕ) (some : 0 < s) (few : s ≤ 16) {found : Inside} where
  -- the floor is accepted, and the question is answered so
  both : look_of s vs ps question ≡ Ok found → (floor_look_of s vs ps ≡ Ok tt) × (ask_of (floor_of s vs ps) question ≡ Ok found)
  unfolding look_of
  both e = go (floor_look_of s vs ps) refl e
    where
      go : (look : Result Unit Refusal) → floor_look_of s vs ps ≡ look → and_then look (ask_of (floor_of s vs ps) question) ≡ Ok found
          → (floor_look_of s vs ps ≡ Ok tt) × (ask_of (floor_of s vs ps) question ≡ Ok found)
      go (Ok tt) h e = (h, e)
      go (Err r) h e = not_inside r found e

  pub looked_inside : look_of s vs ps question ≡ Ok found → (before : List ℕ) {plan : List ℕ} → plan ≡ plan_after s vs ps before
      → Looked s plan vs ps question found.start found.goal
  looked_inside e before {plan} after =
      let h = both e in
      let on = grounded s vs ps some few h.0 before after in
      let slots = slots-are-its s vs ps some few h.0 before after in
      record {
        ground = on;
        slots_are = slots;
        asking = asked_inside on question (subst (λ (k : ℕ). ask_of (floor_of k vs ps) question ≡ Ok found) (sym slots) h.1);
      }

-- ---- the ground that whoever has looked builds an accepted floor on

-- after a look at a floor
pub looked_ground : {plan vs ps : List ℕ} {look : Result Unit Refusal} → look ≡ floor_look_of 8 vs ps → look ≡ Ok tt
    → (before : List ℕ) → plan ≡ plan_after 8 vs ps before → Ground plan vs ps
looked_ground {plan} {vs} {ps} told e before after = grounded 8 vs ps (omega arith) (omega arith) (sym told ∙ e) before after

-- as an accepted floor holds it
pub looked_held : {plan vs ps : List ℕ} {look : Result Unit Refusal} → look ≡ floor_look_of 8 vs ps → look ≡ Ok tt
    → (before : List ℕ) → plan ≡ plan_after 8 vs ps before → ∥ Ground plan vs ps ∥₁
looked_held told e before after = merely (looked_ground told e before after)

-- after a look at a floor and a question
pub asked_ground : {plan vs ps : List ℕ} (question : List ℕ) {answer : Result Inside Refusal} {found : Inside} → answer ≡ look_of 8 vs ps question
    → answer ≡ Ok found → (before : List ℕ) → plan ≡ plan_after 8 vs ps before → Ground plan vs ps
asked_ground {plan} {vs} {ps} question told e before after =
    (looked_inside 8 vs ps question (omega arith) (omega arith) (sym told ∙ e) before after).ground
