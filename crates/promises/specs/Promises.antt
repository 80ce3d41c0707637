-- The promises on search, judge and read-out together, each as one sentence; `found_is_accepted` and so on, in proofs/, prove them. They are said over what
-- the contracts of the doors cite: `search_of` (search/specs/Whole), `verdict_of` (judge/specs/Verdict), `readout_of` and `written_of` (readout/specs/Readout),
-- whatever the bytes of a floor, of a question and of a route, the lent buffers and the budget. `slots` is how many corners a polygon's record holds: the
-- doors have 8. Definitions only. Assumes nothing.
use Rattle.std.specs.Prelude.{ℕ, ◌+◌, ◌-◌, ◌*◌, ◌/◌, ◌≤◌, ◌<◌, ◌≡◌, true, false, List, Ok, Err, ◌↔◌, eqb, Float, length, take}
use Rattle.word.specs.Word.{Bytes}
use Rattle.stored.specs.Stored.{floor_of, question_of}
use Rattle.floor.specs.declared.Refusal.{Refusal}
use Rattle.floor.specs.Look.{look_of}
use Rattle.route.specs.Record.{record_at, end_bytes}
use Rattle.judge.specs.Verdict.{verdict_of}
use Rattle.readout.specs.Points.{length_of}
use Rattle.readout.specs.Readout.{route_points, readout_of, written_of, readout_number}
use Rattle.places.specs.Layout.{places_in}
use Rattle.writing.specs.declared.Answer.{Answer}
use Rattle.writing.specs.declared.Answer.TheVariants.{Found, NotFound, NoPlaces, Full, Spent, Short, TableFull}
use Rattle.writing.specs.declared.Answer.TheVariants.{Refused as Turned}
use Rattle.writing.specs.Answers.{answer_number}
use Rattle.writing.specs.Delivered.{written}
use Rattle.search.specs.Whole.{Lent, Searched, searched_of, with_lent, search_of}

-- ---- a search, over every output that it may be lent

-- A route of n bytes, in so many steps: written to every output that has room for it, and the answer 13 to every other.
pub record Route (steps n : ℕ) (search : List ℕ → Searched) : Type 0 where
  pub bytes : List ℕ
  pub long : length bytes ≡ n
  pub lent : Lent
  pub writes : (out : List ℕ) → search out ≡ with_lent lent (written bytes steps out)

-- A route longer than the room.
pub record Longer (steps room : ℕ) (search : List ℕ → Searched) : Type 0 where
  pub size : ℕ
  pub route : Route steps size search
  pub more : room < size

-- an answer that has no route
abbrev pub NoRoute : Answer → Type 0
NoRoute (Found steps bytes) = ⊥
NoRoute (NotFound steps) = Unit {0}
NoRoute (Turned refusal) = Unit {0}
NoRoute NoPlaces = Unit {0}
NoRoute (Full steps) = Unit {0}
NoRoute (Spent steps) = Unit {0}
NoRoute (Short steps) = ⊥
NoRoute (TableFull steps) = Unit {0}

-- Whatever output it is lent, a search gives the same answer with no route and leaves the output, or has the same route.
pub data TellsTheSame (search : List ℕ → Searched) : Type 0 where
  without : (answer : Answer) (lent : Lent) → NoRoute answer → ((out : List ℕ) → search out ≡ searched_of answer lent out) → TellsTheSame search
  with_route : (bytes : List ℕ) (steps : ℕ) (lent : Lent) → ((out : List ℕ) → search out ≡ with_lent lent (written bytes steps out))
      → TellsTheSame search

-- the same answer, the same buffers, the table among them, and the same n bytes in front
pub record SameRoute (n : ℕ) (a b : Searched) : Type 0 where
  pub answer_same : b.answer ≡ a.answer
  pub lent_same : b.lent ≡ a.lent
  pub bytes_same : take n b.out ≡ take n a.out

-- ---- the promises on a search

module _ (slots : ℕ) (vertices polygons question : List ℕ) (budget : ℕ) (lent : Lent) where
  -- what it answers and leaves, for whatever output it is lent
  abbrev search : List ℕ → Searched
  search = search_of slots vertices polygons question budget lent

  -- Demand 3: "every route that our search finds and has room to write is accepted": where the search answers 0, the judge answers 0 on just the bytes that
  -- it wrote.
  abbrev pub FoundIsAccepted : Type 0
  FoundIsAccepted =
      0 < slots → slots ≤ 16 → Bytes polygons → (out : List ℕ) (steps n : ℕ) → (search out).answer ≡ Found steps n
      → verdict_of slots vertices polygons question (take n (search out).out) ≡ Ok tt

  -- And where the read-out of those bytes lists points, the last record has their number, and their length.
  abbrev pub FoundIsListed : Type 0
  FoundIsListed =
      0 < slots → slots ≤ 16 → Bytes polygons → (out : List ℕ) (steps n : ℕ) → (search out).answer ≡ Found steps n
      → let file = take n (search out).out in
      (room : List Float) (count : ℕ) → readout_of slots vertices polygons question file room ≡ Ok count
      → record_at file (length file / 32 - 1)
      ≡ end_bytes count (question_of question).goal (length_of (question_of question).start (route_points (floor_of slots vertices polygons) question file))

  -- 0 comes exactly where the search finds a route that is not longer than the output,
  abbrev pub FoundExactly : Type 0
  FoundExactly = (out : List ℕ) (steps n : ℕ) → (search out).answer ≡ Found steps n ↔ (Route steps n search × (n ≤ length out))

  -- and "13: output too short" exactly where it finds one that is longer.
  abbrev pub ShortExactly : Type 0
  ShortExactly = (out : List ℕ) (steps : ℕ) → (search out).answer ≡ Short steps ↔ Longer steps (length out) search

  -- A route that is found has from 2 to 4,097 whole records.
  abbrev pub FoundIs2To4097Records : Type 0
  FoundIs2To4097Records =
      0 < slots → slots ≤ 16 → Bytes polygons → (out : List ℕ) (steps n : ℕ) → (search out).answer ≡ Found steps n
      → (n ≡ 32 * (n / 32)) × (2 ≤ n / 32) × (n / 32 ≤ 4097)

  -- "13: output too short": with 32 × (N + 1) bytes of room it never comes.
  abbrev pub WideIsNeverShort : Type 0
  WideIsNeverShort =
      0 < slots → slots ≤ 16 → Bytes polygons → (out : List ℕ) → 32 * (places_in lent.work + 1) ≤ length out → (steps : ℕ)
      → (search out).answer ≡ Short steps → ⊥

  -- Where a search does not end by its budget, every larger budget gives the same answer, the same buffers and the same output: so where it answers 0, it
  -- answers 0 with the same bytes and the same counted steps.
  abbrev pub LargerBudgetSame : Type 0
  LargerBudgetSame =
      (more : ℕ) (out : List ℕ) → ((steps : ℕ) → (search out).answer ≡ Spent steps → ⊥)
      → search_of slots vertices polygons question (budget + more) lent out ≡ search out

  -- Where a search answers 0, every larger output gets the answer 0 too, with the same counted steps, the same buffers and the same bytes.
  abbrev pub LargerOutputSame : Type 0
  LargerOutputSame =
      (out wider : List ℕ) → length out ≤ length wider → (steps n : ℕ) → (search out).answer ≡ Found steps n
      → SameRoute n (search out) (search wider)

  -- "Other than 0, nothing in the output changes."
  abbrev pub RefusalLeavesOutput : Type 0
  RefusalLeavesOutput = (out : List ℕ) → (answer_number (search out).answer ≡ 0 → ⊥) → (search out).out ≡ out

  -- "Up to 10 the work buffers stay too", and the table with them: where floor or question is refused,
  abbrev pub RefusedLeavesBuffers : Type 0
  RefusedLeavesBuffers =
      (out : List ℕ) (r : Refusal) → look_of slots vertices polygons question ≡ Err r → search out ≡ searched_of (Turned r) lent out

  -- where there is no place,
  abbrev pub NoPlacesLeavesBuffers : Type 0
  NoPlacesLeavesBuffers =
      (out : List ℕ) (from to : ℕ) → look_of slots vertices polygons question ≡ Ok (record { start = from; goal = to }) → eqb (places_in lent.work) 0 ≡ true
      → search out ≡ searched_of NoPlaces lent out

  -- and "Start and goal in one polygon: found, no steps, work buffers untouched." The table too.
  abbrev pub OnePolygonLeavesBuffers : Type 0
  OnePolygonLeavesBuffers =
      (out : List ℕ) (from to : ℕ) → look_of slots vertices polygons question ≡ Ok (record { start = from; goal = to }) → eqb (places_in lent.work) 0 ≡ false
      → eqb from to ≡ true
      → (search out).lent ≡ lent

-- ---- the promise on a read-out

-- "Other than 0, nothing in the output changes": 13 and every refusal leave the points as they were.
abbrev pub ReadOutLeavesPoints : Type 0
ReadOutLeavesPoints =
    (slots : ℕ) (vertices polygons question route : List ℕ) (out : List Float)
    → (readout_number (readout_of slots vertices polygons question route out) ≡ 0 → ⊥)
    → written_of slots vertices polygons question route out ≡ out
