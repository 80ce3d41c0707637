-- Document 01, "Numbers that come back": what is told of each answer of a search, and its counted steps. Definitions only. Assumes nothing.
use Rattle.std.specs.Prelude.{ℕ, List}
use Rattle.told.specs.declared.Told.{Told}
use Rattle.told.specs.declared.Told.TheVariants.{Alone, WithCount}
use Rattle.told.specs.Told.{number_of, values_of}
use Rattle.floor.specs.declared.Refusal.{Refusal}
use Rattle.floor.specs.Look.{refusal_told}
use Rattle.writing.specs.declared.Answer.{Answer}
use Rattle.writing.specs.declared.Answer.TheVariants.{Found, NotFound, Refused, NoPlaces, Full, Spent, Short, TableFull}

-- an answer that a look at floor and question gives
abbrev pub refused : Refusal → Answer
refused r = Refused r

-- the table's number, and "on 0 the bytes written"
unfoldable pub answer_told : Answer → Told
-- "found, or accepted"
answer_told (Found steps bytes) = WithCount 0 bytes
-- "not found: queue empty"
answer_told (NotFound steps) = Alone 1
answer_told (Refused r) = refusal_told r
-- "node places N is 0"
answer_told NoPlaces = Alone 10
-- "a node needs a place and none is left"
answer_told (Full steps) = Alone 11
-- "queue not empty, budget spent"
answer_told (Spent steps) = Alone 12
-- "output too short"
answer_told (Short steps) = Alone 13
-- document 02: "a new entry needed and the table full"
answer_told (TableFull steps) = Alone 14

abbrev pub answer_number : Answer → ℕ
answer_number answer = number_of (answer_told answer)

-- the bytes written, or the record at fault
abbrev pub answer_values : Answer → List ℕ
answer_values answer = values_of (answer_told answer)

-- "With every number the search returns its counted steps (0 up to 10)"
unfoldable pub answer_steps : Answer → ℕ
answer_steps (Found steps bytes) = steps
answer_steps (NotFound steps) = steps
answer_steps (Refused r) = 0
answer_steps NoPlaces = 0
answer_steps (Full steps) = steps
answer_steps (Spent steps) = steps
answer_steps (Short steps) = steps
answer_steps (TableFull steps) = steps
