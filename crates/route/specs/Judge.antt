-- Document 01, the judge: "20, then records in order". What it says of a file, over any world. Definitions only. Assumes nothing.
use Rattle.std.specs.Prelude.{ℕ, zero, suc, ◌+◌, ◌-◌, ◌%◌, Bool, true, false, ◌&&◌, cond, List, [], ◌∷◌, eqb, leb, length}
use Rattle.std.specs.Prelude.{Option, Some, None, Result, Ok, Err}
use Rattle.told.specs.declared.Told.{Told}
use Rattle.told.specs.declared.Told.TheVariants.{Alone, AtRecord}
use Rattle.route.specs.declared.Step.{Step}
use Rattle.route.specs.declared.Fault.{Fault}
use Rattle.route.specs.declared.Fault.TheVariants.{Length, NotSeed, NotStep, NotEnd}
use Rattle.route.specs.Record.{record_at, records, step_bytes}
use Rattle.route.specs.World.{World}

-- ---- records

-- "A record is right only when all its bytes are."
unfoldable pub same_bytes : List ℕ → List ℕ → Bool
same_bytes [] [] = true
same_bytes [] (y ∷ ys) = false
same_bytes (x ∷ xs) [] = false
same_bytes (x ∷ xs) (y ∷ ys) = eqb x y && same_bytes xs ys

-- "32 × (2 to 4,097) bytes"
unfoldable pub length_right : List ℕ → Bool
length_right file = eqb (length file % 32) 0 && (leb 2 (records file) && leb (records file) 4097)

-- ---- which step a record is

-- the first of the steps whose bytes these are
unfoldable pub find_step : List Step → List ℕ → Option Step
find_step [] bytes = None
find_step (s ∷ steps) bytes = cond (same_bytes bytes (step_bytes s)) (Some s) (find_step steps bytes)

-- what was found, or else what is found there
unfoldable pub or_else : Option Step → Option Step → Option Step
or_else (Some s) there = Some s
or_else None there = there

-- goes on with the step that was found
unfoldable pub onwards : Option Step → (Step → Result Unit Fault) → Result Unit Fault → Result Unit Fault
onwards (Some s) next otherwise = next s
onwards None next otherwise = otherwise

-- ---- the judge

module _ {Node : Type 0} (w : World Node) (file : List ℕ) where
  -- "23: last record is not the true end, or the one before it is not in the goal polygon"
  unfoldable pub judge_end : Node → ℕ → Result Unit Fault
  judge_end node i = cond (w.in_goal node && same_bytes (record_at file i) (w.end_bytes node)) (Ok tt) (Err (NotEnd i))

  -- From record i on, at a node, with this many middle records left before the last one. "22: a middle record is not a permitted step"
  unfoldable pub judge_from : Node → ℕ → ℕ → Result Unit Fault
  judge_from node i zero = judge_end node i
  judge_from node i (suc left) = onwards (find_step (w.steps_from node) (record_at file i)) (λ s. judge_from (w.enter node s) (i + 1) left) (Err (NotStep i))

  -- "20: route file not 32 × (2 to 4,097) bytes", "21: first record is not the seed"
  unfoldable pub judge_of : Result Unit Fault
  judge_of = cond (length_right file) (cond (same_bytes (record_at file 0) w.seed_bytes) (judge_from w.seed 1 (records file - 2)) (Err NotSeed)) (Err Length)

-- ---- what is told: the table's number, and "21, 22, 23 also return the lowest record at fault, 23 always the last record"

-- of a fault
unfoldable pub fault_told : Fault → Told
-- "route file not 32 × (2 to 4,097) bytes"
fault_told Length = Alone 20
-- "first record is not the seed"
fault_told NotSeed = AtRecord 21 0
-- "a middle record is not a permitted step"
fault_told (NotStep i) = AtRecord 22 i
-- "last record is not the true end, or the one before it is not in the goal polygon"
fault_told (NotEnd i) = AtRecord 23 i

-- of all that the judge says
unfoldable pub judged_told : Result Unit Fault → Told
-- "found, or accepted"
judged_told (Ok tt) = Alone 0
judged_told (Err fault) = fault_told fault
