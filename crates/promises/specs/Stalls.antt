-- The promises on a search that stalls (document 02, M-130), each as one sentence; `never_14`, `table_full_exactly`, `never_stalls_is_before` and
-- `few_steps_are_before`, in proofs/Stalls, prove them. They are said over `search_of` (search/specs/Whole), which the doors' contracts cite. Definitions only.
-- Assumes nothing.
use Rattle.std.specs.Prelude.{ℕ, ◌≤◌, ◌<◌, ◌≡◌, false, cond, List, Ok, ◌↔◌, eqb}
use Rattle.stored.specs.Stored.{Floor, floor_of, question_of}
use Rattle.floor.specs.Look.{look_of}
use Rattle.steps.specs.World.{trip_of}
use Rattle.places.specs.Layout.{places_in}
use Rattle.seen.specs.Table.{entries_in}
use Rattle.machine.specs.declared.Task.{Task}
use Rattle.machine.specs.Search.{Searching, searching, outset, calm, run, searched_from}
use Rattle.machine.specs.Before.{searched_before}
use Rattle.machine.specs.Crowded.{CrowdsWithin}
use Rattle.writing.specs.declared.Answer.TheVariants.{NoPlaces, TableFull}
use Rattle.writing.specs.Answers.{answer_steps}
use Rattle.writing.specs.Delivered.{straight_bytes, written, delivered}
use Rattle.search.specs.Whole.{Lent, lent_of, Searched, searched_of, with_lent, if_inside, search_of}

module _ (slots : ℕ) (vertices polygons question : List ℕ) (budget : ℕ) (lent : Lent) where
  abbrev pub floor : Floor
  floor = floor_of slots vertices polygons

  -- what is asked, between two polygons
  abbrev pub task_between : ℕ → ℕ → Task
  task_between from to = record { trip = trip_of (question_of question) from to; places = places_in lent.work }

  -- the search when the seed's steps are made
  abbrev pub set_out : ℕ → ℕ → Searching
  set_out from to = searching (outset floor (task_between from to) lent.work).state calm lent.table

  -- ---- 14

  -- "The programs lend 2,047 entries, so 14 never reaches them": with as many entries as places 14 never comes.
  abbrev pub Never14 : Type 0
  Never14 =
      0 < slots → slots ≤ 16 → places_in lent.work ≤ entries_in lent.table → (out : List ℕ) (steps : ℕ)
      → (search_of slots vertices polygons question budget lent out).answer ≡ TableFull steps → ⊥

  -- The case of 14: start and goal lie in two polygons, there are places, and the seed's steps find theirs; within the budget a popped node needs a new entry
  -- and every one is used (machine/specs/Crowded), and so many steps are counted then.
  pub record TableFullCase (steps : ℕ) : Type 0 where
    pub from : ℕ
    pub to : ℕ
    pub inside : look_of slots vertices polygons question ≡ Ok (record { start = from; goal = to })
    pub places : eqb (places_in lent.work) 0 ≡ false
    pub apart : eqb from to ≡ false
    pub begins : (outset floor (task_between from to) lent.work).full ≡ false
    pub crowds : CrowdsWithin floor (task_between from to) budget (set_out from to)
    pub counted : (run floor (task_between from to) budget (set_out from to)).search.state.counts.pops ≡ steps

  -- "Each number is given exactly in its case."
  abbrev pub TableFullExactly : Type 0
  TableFullExactly = (out : List ℕ) (steps : ℕ) → (search_of slots vertices polygons question budget lent out).answer ≡ TableFull steps ↔ TableFullCase steps

  -- ---- a search that does not stall

  -- document 01's search from end to end, as it was before M-130: the table stays as it was lent
  unfoldable pub search_before : List ℕ → Searched
  search_before out =
      if_inside (look_of slots vertices polygons question) lent out (λ from to.
      let t = task_between from to in
      let e = searched_before floor t budget lent.work in
      cond (eqb t.places 0) (searched_of NoPlaces lent out)
      (cond (eqb from to) (with_lent lent (written (straight_bytes t.trip) 0 out))
      (with_lent (lent_of e.state.work lent.table) (delivered t.trip e out))))

  -- it never records: when it has ended it does not, and recording never ends
  abbrev pub NeverStalls : Type 0
  NeverStalls =
      (from to : ℕ) → look_of slots vertices polygons question ≡ Ok (record { start = from; goal = to })
      → (searched_from floor (task_between from to) budget lent.work lent.table).search.stall.recording ≡ false

  -- A search that never stalls is the search of before, to the word: the same answer, the same work buffers, the same output, and the table untouched.
  abbrev pub NeverStallsIsBefore : Type 0
  NeverStallsIsBefore = NeverStalls → (out : List ℕ) → search_of slots vertices polygons question budget lent out ≡ search_before out

  -- "recording once that count is above 512", "the first pop raises it": with 513 counted steps or fewer it is the search of before.
  abbrev pub FewStepsAreBefore : Type 0
  FewStepsAreBefore =
      0 < slots → slots ≤ 16 → (out : List ℕ) → answer_steps (search_of slots vertices polygons question budget lent out).answer ≤ 513
      → search_of slots vertices polygons question budget lent out ≡ search_before out
