-- What a table holds, apart from where: the keys that were entered since it was laid out, each once. proofs/Holding has that it is just these, for whatever
-- was entered in whatever order. Definitions only. Assumes nothing.
use Rattle.std.specs.Prelude.{◌≡◌, ℕ, false, List, [], ◌∷◌, length, slice_index_or}
use Rattle.queue.specs.Queue.{none}
use Rattle.seen.specs.Table.{words_per_entry, entered_cell, laid_out, is_seen, is_full, entered}

-- ten words, and the last one names a polygon
pub record IsKey (key : List ℕ) : Type 0 where
  pub ten : length key ≡ words_per_entry
  pub named : slice_index_or key entered_cell 0 ≡ none → ⊥

-- these keys were entered, the last one first, since the table was laid out
pub data Kept : List (List ℕ) → List ℕ → Type 0 where
  laid : (table : List ℕ) → Kept [] (laid_out table)
  more : (keys : List (List ℕ)) (table key : List ℕ) → Kept keys table → IsKey key → is_seen table key ≡ false → is_full table ≡ false
      → Kept (key ∷ keys) (entered table key)

-- a table in which a search records
pub record Records (table : List ℕ) : Type 0 where
  pub keys : List (List ℕ)
  pub kept : Kept keys table
