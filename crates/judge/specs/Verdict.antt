-- Document 01, "The judge runs 2 to 9, then 20, then records in order": what it says of a floor, a question and a route file, and what is
-- told of each verdict. Assumes nothing.
use Rattle.std.specs.Prelude.{ℕ, ◌&&◌, cond, Result, Ok, Err, List}
use Rattle.told.specs.declared.Told.{Told}
use Rattle.told.specs.Told.{number_of, values_of}
use Rattle.floor.specs.declared.Refusal.{Refusal}
use Rattle.floor.specs.declared.Inside.{Inside}
use Rattle.stored.specs.Stored.{Floor, floor_of, question_of}
use Rattle.floor.specs.Look.{look_of, refusal_told}
use Rattle.route.specs.declared.Fault.{Fault}
use Rattle.route.specs.declared.Fault.TheVariants.{NotEnd}
use Rattle.route.specs.Record.{record_at, end_bytes}
use Rattle.route.specs.Judge.{same_bytes, judge_of, judged_told}
use Rattle.steps.specs.declared.Node.{Node}
use Rattle.steps.specs.declared.Trip.{Trip}
use Rattle.steps.specs.World.{ending_of, is_in_goal, trip_of, world_in}
use Rattle.judge.specs.declared.Unaccepted.{Unaccepted}
use Rattle.judge.specs.declared.Unaccepted.TheVariants.{Refused, Untrue}

-- ---- the last record

-- "23: last record is not the true end, or the one before it is not in the goal polygon"
unfoldable pub end_of : Trip → Node → List ℕ → ℕ → Result Unit Fault
end_of trip node file i =
    let ending = ending_of trip.goal node in
    cond (is_in_goal trip.to node && same_bytes (record_at file i) (end_bytes ending.points trip.goal ending.length)) (Ok tt) (Err (NotEnd i))

-- ---- the judge

-- what is said of the file, as a verdict
abbrev pub read_as : Result Unit Fault → Result Unit Unaccepted
read_as (Ok tt) = Ok tt
read_as (Err fault) = Err (Untrue fault)

-- a refusal of the floor or of the question, or what is said of the file, the start and the goal being in these polygons
abbrev pub judge_if : Result Inside Refusal → (ℕ → ℕ → Result Unit Fault) → Result Unit Unaccepted
judge_if (Ok inside) judged = read_as (judged inside.start inside.goal)
judge_if (Err refusal) judged = Err (Refused refusal)

-- "then 20, then records in order", start and goal being in these polygons
abbrev pub judged_in : Floor → List ℕ → List ℕ → ℕ → ℕ → Result Unit Fault
judged_in f question route from to = judge_of (world_in f (trip_of (question_of question) from to)) route

-- 2 to 9, and the route file
unfoldable pub verdict_of : ℕ → List ℕ → List ℕ → List ℕ → List ℕ → Result Unit Unaccepted
verdict_of slots vertices polygons question route =
    judge_if (look_of slots vertices polygons question) (judged_in (floor_of slots vertices polygons) question route)

-- ---- what is told of each verdict

unfoldable pub unaccepted_told : Unaccepted → Told
unaccepted_told (Refused refusal) = refusal_told refusal
-- what is said of a file that is not a true route
unaccepted_told (Untrue fault) = judged_told (Err fault)

unfoldable pub verdict_told : Result Unit Unaccepted → Told
-- "found, or accepted": what is said of a true route
verdict_told (Ok tt) = judged_told (Ok tt)
verdict_told (Err unaccepted) = unaccepted_told unaccepted

abbrev pub verdict_number : Result Unit Unaccepted → ℕ
verdict_number verdict = number_of (verdict_told verdict)

-- "4, 5, 6, 21, 22, 23 also return the lowest record at fault, 23 always the last record"
abbrev pub verdict_record : Result Unit Unaccepted → List ℕ
verdict_record verdict = values_of (verdict_told verdict)
