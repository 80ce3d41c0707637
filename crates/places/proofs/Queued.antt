-- The queue in the lent buffers: what `put_queued` makes of it, whatever its words were, and that a queue stays one when floats change that are no queued
-- place's f. Rests on specs/Layout and on the laws of `queue`. Assumes nothing.
use Prim.Native.Nat.{ℕ, ◌*◌, ◌≤◌, ◌<◌}
use native.Mathlib.Omega.{arith}
use mathlib.Core.Path.{◌≡◌, refl, sym, ◌∙◌}
use mathlib.Core.Bool.{Bool, true}
use mathlib.Core.List.{List}
use mathlib.Core.Logic.{inl}
use lib.Ieee.{Float}
use lib.ListN.{length, get_or, drop}
use Rattle.steps.specs.declared.Node.{Node}
use Rattle.queue.specs.Queue.{none, put, NoNan, Tree}
use Rattle.queue.specs.Words.{column, queued_in}
use Rattle.queue.proofs.Scan.{least_same}
use Rattle.queue.proofs.Words.{tree_same}
use Rattle.queue.proofs.Queued.{put_same, put_other, queue_length, queue_behind, queue_says, queue_own_tree, queue_root}
use Rattle.places.specs.Layout.{floats_per_place, f_cell, Work, Room, f_at, put_floats, is_queued, least_in, put_queued}
use Rattle.places.proofs.Rows.{SameFloats, f_same, floats_elsewhere}

-- ---- a place queued, or not

module _ (n : ℕ) (w : Work) (i : ℕ) (b : Bool) where
  -- as many words as there were, and those behind the tree as they were
  pub put_queued_length : 2 * n ≤ length w.queue → length (put_queued n w i b).queue ≡ length w.queue
  put_queued_length = queue_length (f_at w) n (put (is_queued n w) i b) w.queue

  pub put_queued_behind : drop (2 * n) (put_queued n w i b).queue ≡ drop (2 * n) w.queue
  put_queued_behind = queue_behind (f_at w) n (put (is_queued n w) i b) w.queue

  pub put_queued_room : Room n w → Room n (put_queued n w i b)
  put_queued_room r = record {
    floats_room = r.floats_room;
    words_room = r.words_room;
    queue_room = rw (put_queued_length r.queue_room) r.queue_room;
    few = r.few;
  }

  module _ (few : n ≤ none) where
    -- which places are queued then
    pub put_queued_lem : (j : ℕ) → j < n → is_queued n (put_queued n w i b) j ≡ put (is_queued n w) i b j
    put_queued_lem = queue_says (f_at w) n (put (is_queued n w) i b) w.queue few

    pub put_queued_here : i < n → is_queued n (put_queued n w i b) i ≡ b
    put_queued_here l = put_queued_lem i l ∙ put_same (is_queued n w) i b

    pub put_queued_other : (j : ℕ) → j < n → (j ≡ i → ⊥) → is_queued n (put_queued n w i b) j ≡ is_queued n w j
    put_queued_other j l d = put_queued_lem j l ∙ put_other (is_queued n w) i b j d

    -- the words are the tree of these
    pub put_queued_tree : Tree (f_at w) n (is_queued n (put_queued n w i b)) (put_queued n w i b).queue
    put_queued_tree = queue_own_tree (f_at w) n (put (is_queued n w) i b) w.queue few

    -- and word 1 is the least of them
    pub put_queued_root : 0 < n → NoNan (f_at w) n (put (is_queued n w) i b) → get_or (put_queued n w i b).queue 1 0 ≡ least_in n (put_queued n w i b)
    put_queued_root z o =
        queue_root (f_at w) n (put (is_queued n w) i b) w.queue few z o
        ∙ least_same (f_at w) (f_at w) n (put (is_queued n w) i b) (is_queued n (put_queued n w i b)) few (λ j l. sym (put_queued_lem j l)) (λ j l h. refl)

-- ---- other floats

module _ (n : ℕ) (few : n ≤ none) (old : List Float) (t : List ℕ) (tree : Tree (column old floats_per_place f_cell) n (queued_in n t) t) where
  -- of each queued place the f is what it was
  pub tree_stays : (new : List Float)
      → ((j : ℕ) → j < n → queued_in n t j ≡ true → column new floats_per_place f_cell j ≡ column old floats_per_place f_cell j)
      → Tree (column new floats_per_place f_cell) n (queued_in n t) t
  tree_stays new same =
      let was = column old floats_per_place f_cell in
      let is = column new floats_per_place f_cell in
      tree_same was is n (queued_in n t) (queued_in n t) few (λ j l. refl) (λ j l h. sym (same j l h)) t tree

  -- beside a distance on record
  pub tree_beside : (new : List Float) → ((j : ℕ) → SameFloats new old j) → Tree (column new floats_per_place f_cell) n (queued_in n t) t
  tree_beside new same = tree_stays new (λ j l h. f_same new old j (same j))

  -- beside a node at a place behind every queued one
  pub tree_behind : (i : ℕ) (node : Node) (f : Float) → ((j : ℕ) → j < n → queued_in n t j ≡ true → j < i)
      → Tree (column (put_floats old i node f) floats_per_place f_cell) n (queued_in n t) t
  tree_behind i node f below = tree_stays (put_floats old i node f) (λ j l h. f_same (put_floats old i node f) old j (beside j (below j l h)))
    where
      beside : (j : ℕ) → j < i → SameFloats (put_floats old i node f) old j
      beside j lower k few = floats_elsewhere old i node f j k (omega arith) (inl (λ e. omega arith))
