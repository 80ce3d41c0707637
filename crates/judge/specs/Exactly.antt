-- Document 01, "Each number is given exactly in its case": the case of each of the judge's verdicts. proofs/Exact says it both ways, and proofs/Numbers
-- by the numbers. Definitions only. Assumes nothing.
use Rattle.std.specs.Prelude.{ℕ, ◌-◌, ◌/◌, ◌<◌, ◌≡◌, List, [], ◌∷◌, ◌↔◌, ◌⊎◌, Result, Ok, Err, length, take}
use Rattle.stored.specs.Stored.{floor_of, question_of}
use Rattle.floor.specs.Exactly.{Asked, InSome, FloorCase, Case as LookCase}
use Rattle.route.specs.World.{World, TrueRoute}
use Rattle.route.specs.Verdict.{RouteLength, SeedFault, StepFault, EndFault, Case as RouteCase}
use Rattle.steps.specs.declared.Node.{Node}
use Rattle.steps.specs.World.{world_of}
use Rattle.judge.specs.declared.Unaccepted.{Unaccepted}
use Rattle.judge.specs.declared.Unaccepted.TheVariants.{Refused, Untrue}
use Rattle.judge.specs.Verdict.{verdict_of, verdict_number, verdict_record}

-- An accepted floor and a right question, start and goal inside.
pub record Inside (slots : ℕ) (vertices polygons question : List ℕ) : Type 0 where
  pub sound : FloorCase slots vertices polygons (Ok tt)
  pub asked : Asked question
  pub start_inside : InSome (floor_of slots vertices polygons) (question_of question).start
  pub goal_inside : InSome (floor_of slots vertices polygons) (question_of question).goal

-- 2 to 9 in the cases of the floor and the question; 0 and 20 to 23 where these are right, in the cases of the route file
abbrev pub Case : ℕ → List ℕ → List ℕ → List ℕ → List ℕ → Result Unit Unaccepted → Type 0
Case slots vertices polygons question route (Ok tt) =
    Inside slots vertices polygons question × RouteCase (world_of (floor_of slots vertices polygons) (question_of question)) route (Ok tt)
Case slots vertices polygons question route (Err (Refused refusal)) = LookCase slots vertices polygons question (Err refusal)
Case slots vertices polygons question route (Err (Untrue fault)) =
    Inside slots vertices polygons question × RouteCase (world_of (floor_of slots vertices polygons) (question_of question)) route (Err fault)

-- ---- the same by document 01's numbers, wherever start and goal are `Inside`: proofs/Numbers

module _ (slots : ℕ) (vertices polygons question : List ℕ) where
  abbrev world : World Node
  world = world_of (floor_of slots vertices polygons) (question_of question)

  -- the judge's number for a file, and the record that comes with it
  abbrev number : List ℕ → ℕ
  number file = verdict_number (verdict_of slots vertices polygons question file)

  abbrev at : List ℕ → List ℕ
  at file = verdict_record (verdict_of slots vertices polygons question file)

  -- Demand 3: the judge accepts exactly the true routes.
  abbrev pub AcceptedExactly : List ℕ → Type 0
  AcceptedExactly route = number route ≡ 0 ↔ TrueRoute world route

  -- "20: route file not 32 × (2 to 4,097) bytes"
  abbrev pub LengthExactly : List ℕ → Type 0
  LengthExactly route = number route ≡ 20 ↔ (RouteLength route → ⊥)

  -- "21: first record is not the seed"
  abbrev pub SeedExactly : List ℕ → Type 0
  SeedExactly route = number route ≡ 21 ↔ SeedFault world route

  -- "22: a middle record is not a permitted step", with the lowest such record
  abbrev pub StepExactly : List ℕ → Type 0
  StepExactly route = (k : ℕ) → (number route ≡ 22) × (at route ≡ k ∷ []) ↔ StepFault world route k

  -- "23: last record is not the true end, or the one before it is not in the goal polygon", with the last record
  abbrev pub EndExactly : List ℕ → Type 0
  EndExactly route = (k : ℕ) → (number route ≡ 23) × (at route ≡ k ∷ []) ↔ EndFault world route k

  -- Demand 3: "An accepted file cut short anywhere is refused", with 20 or with 23 at the record that is last then.
  abbrev pub CutIsRefused : List ℕ → Type 0
  CutIsRefused route =
      number route ≡ 0 → (k : ℕ) → k < length route
      → (number (take k route) ≡ 20) ⊎ ((number (take k route) ≡ 23) × (at (take k route) ≡ (k / 32 - 1) ∷ []))
