-- Document 02, M-130: "Refusals: 14, a new entry needed and the table full, after 12 in a step's order". When a search ends so, in these words.
-- proofs/Exact has that it ends so exactly then. Definitions only. Assumes nothing.
use Rattle.std.specs.Prelude.{ℕ, zero, suc, ◌≡◌, true, false, ◌⊎◌, eqb, None}
use Rattle.stored.specs.Stored.{Floor}
use Rattle.queue.specs.Queue.{none}
use Rattle.places.specs.Layout.{node_at, least_in, f_at}
use Rattle.seen.specs.Table.{key_of, is_seen, is_full}
use Rattle.machine.specs.declared.Task.{Task}
use Rattle.machine.specs.Search.{Searching, is_beaten, popped, watched, step}

module _ (f : Floor) (t : Task) where
  -- the place that is popped next
  abbrev pub next_place : Searching → ℕ
  next_place x = least_in t.places x.state.work

  -- the search when that pop is counted and noticed
  abbrev pub after_pop : Searching → Searching
  after_pop x = watched x (popped f t x.state (next_place x)) (f_at x.state.work (next_place x))

  -- "a new entry needed and the table full": the next step pops a node, and the search records; the node's root has no smaller distance, its ten words have
  -- not been seen, and every entry is used
  pub record Crowds (x : Searching) : Type 0 where
    pub pops : eqb (next_place x) none ≡ false
    pub recording : (after_pop x).stall.recording ≡ true
    pub unbeaten : is_beaten (after_pop x).state (node_at (after_pop x).state.work (next_place x)) ≡ false
    pub unseen : is_seen (after_pop x).table (key_of (node_at (after_pop x).state.work (next_place x))) ≡ false
    pub full : is_full (after_pop x).table ≡ true

  -- one of the next so many steps is such a one, and the search goes on up to it
  abbrev pub CrowdsWithin : ℕ → Searching → Type 0
  CrowdsWithin zero x = ⊥
  CrowdsWithin (suc budget) x = Crowds x ⊎ (((step f t x).outcome ≡ None) × CrowdsWithin budget (step f t x).search)
