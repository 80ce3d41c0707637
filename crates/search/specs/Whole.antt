-- Document 01, the search from end to end: the tests, the search, and what is told. What comes back, and what each lent buffer holds then. Definitions only.
-- Assumes nothing.
use Rattle.std.specs.Prelude.{ℕ, cond, List, eqb, Result, Ok, Err}
use Rattle.stored.specs.Stored.{Floor, floor_of, question_of}
use Rattle.floor.specs.declared.Inside.{Inside}
use Rattle.floor.specs.declared.Refusal.{Refusal}
use Rattle.floor.specs.Look.{look_of, ask_of}
use Rattle.steps.specs.declared.Trip.{Trip}
use Rattle.steps.specs.World.{trip_of}
use Rattle.places.specs.Layout.{Work, places_in}
use Rattle.machine.specs.declared.Task.{Task}
use Rattle.machine.specs.Search.{rest_in, searched_from}
use Rattle.writing.specs.declared.Answer.{Answer}
use Rattle.writing.specs.declared.Answer.TheVariants.{NoPlaces}
use Rattle.writing.specs.Answers.{refused}
use Rattle.writing.specs.Delivered.{Delivered, straight_bytes, written, delivered}

-- what a search is lent to work in: the work buffers, and document 02's table
pub record Lent : Type 0 where
  pub work : Work
  pub table : List ℕ

abbrev pub lent_of : Work → List ℕ → Lent
lent_of work table = record { work = work; table = table }

-- the answer, what was lent and the output
pub record Searched : Type 0 where
  pub answer : Answer
  pub lent : Lent
  pub out : List ℕ

abbrev pub searched_of : Answer → Lent → List ℕ → Searched
searched_of answer lent out = record { answer = answer; lent = lent; out = out }

abbrev pub with_lent : Lent → Delivered → Searched
with_lent lent t = searched_of t.answer lent t.out

-- ---- from end to end

-- "Start and goal in one polygon: found, no steps, work buffers untouched."
unfoldable pub routed : Floor → Task → ℕ → Lent → List ℕ → Searched
routed f t budget lent out =
    let left = rest_in (searched_from f t budget lent.work lent.table) in
    cond (eqb t.trip.from t.trip.to) (with_lent lent (written (straight_bytes t.trip) 0 out))
    (with_lent (lent_of left.end.state.work left.table) (delivered t.trip left.end out))

-- "10: node places N is 0"
unfoldable pub between_of : Floor → Trip → ℕ → Lent → List ℕ → Searched
between_of f trip budget lent out =
    let n = places_in lent.work in
    cond (eqb n 0) (searched_of NoPlaces lent out) (routed f (record { trip = trip; places = n }) budget lent out)

-- "Up to 10 the work buffers stay too"
abbrev pub if_inside : Result Inside Refusal → Lent → List ℕ → (ℕ → ℕ → Searched) → Searched
if_inside (Ok inside) lent out search = search inside.start inside.goal
if_inside (Err r) lent out search = searched_of (refused r) lent out

-- 7 to 9, of a floor that was accepted, and the search
unfoldable pub asked_of : Floor → List ℕ → ℕ → Lent → List ℕ → Searched
asked_of f question budget lent out = if_inside (ask_of f question) lent out (λ p goal. between_of f (trip_of (question_of question) p goal) budget lent out)

-- 2 to 9, and the search
unfoldable pub search_of : ℕ → List ℕ → List ℕ → List ℕ → ℕ → Lent → List ℕ → Searched
search_of slots vertices polygons question budget lent out =
    let f = floor_of slots vertices polygons in
    if_inside (look_of slots vertices polygons question) lent out (λ p goal. between_of f (trip_of (question_of question) p goal) budget lent out)
