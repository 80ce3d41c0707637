-- Document 02, M-130: the lent table of nodes that were met while the search records. The one file that knows where an entry lies. What the table holds,
-- apart from where, is said in specs/Kept. Definitions only. Assumes nothing.
use Rattle.std.specs.Prelude.{ℕ, zero, suc, ◌+◌, ◌*◌, ◌/◌, ◌%◌, ◌^◌, min, Bool, cond, not, ◌||◌, List, [], ◌∷◌, length, ◌==◌, nat_eq, nat_lt, slice_index, slice_set, to_bits}
use Rattle.std.specs.Float.{binary32}
use Rattle.counts.specs.Counts.{every, some, first}
use Rattle.steps.specs.declared.Node.{Node}
use Rattle.queue.specs.Queue.{none}
use Rattle.queue.specs.Words.{cleared}
use Rattle.places.specs.Layout.{most_places}
use Rattle.seen.specs.declared.Entry.{Entry}
use Rattle.seen.specs.declared.Entry.TheVariants.{New, Seen, NoRoom}
use Rattle.seen.specs.declared.Spot.{Spot}
use Rattle.seen.specs.declared.Spot.TheVariants.{Held, Free, Nowhere}

-- ---- a node's words

-- "The ten words are ours: root, interval, edge, polygon left, polygon entered, as bits."
unfoldable pub key_of : Node → List ℕ
key_of node =
    to_bits binary32 node.root.x ∷ to_bits binary32 node.root.y
    ∷ to_bits binary32 node.interval.0.x ∷ to_bits binary32 node.interval.0.y
    ∷ to_bits binary32 node.interval.1.x ∷ to_bits binary32 node.interval.1.y
    ∷ node.first ∷ node.second ∷ node.left ∷ node.polygon ∷ []

abbrev pub words_per_entry : ℕ
words_per_entry = 10

-- the polygon entered: the last of the ten
abbrev pub entered_cell : ℕ
entered_cell = 9

-- ---- entries

-- "Its entries are the whole ones lent"; of these as many count as a search may have places, since it pops fewer nodes
unfoldable pub entries_in : List ℕ → ℕ
entries_in table = min (length table / words_per_entry) most_places

unfoldable pub entry_word : List ℕ → ℕ → ℕ → ℕ
entry_word table j k = slice_index table (j * words_per_entry + k)

-- an unused entry has no polygon entered
unfoldable pub is_used : List ℕ → ℕ → Bool
is_used table j = not (entry_word table j entered_cell == none)

-- "comparing all ten"
unfoldable pub holds : List ℕ → List ℕ → ℕ → Bool
holds table key j = every words_per_entry (λ k. nat_eq (entry_word table j k) (slice_index key k))

-- no entry is used: each of its words is none; the words behind the last whole entry stay
unfoldable pub laid_out : List ℕ → List ℕ
laid_out table = cleared (entries_in table * words_per_entry) table

-- the first k words of a key stored in an entry's
unfoldable pub stored_to : List ℕ → ℕ → List ℕ → ℕ → List ℕ
stored_to table j key zero = table
stored_to table j key (suc k) = slice_set (stored_to table j key k) (j * words_per_entry + k) (slice_index key k)

-- a key stored as an entry
unfoldable pub entry_put : List ℕ → ℕ → List ℕ → List ℕ
entry_put table j key = stored_to table j key words_per_entry

-- ---- where a key is looked for

-- "a sum that wraps at 32 bits": of the first k words
unfoldable pub sum_to : List ℕ → ℕ → ℕ
sum_to key zero = 0
sum_to key (suc k) = (sum_to key k + slice_index key k) % 2 ^ 32

-- the same sum where nothing wraps; proofs/Slots has that wrapping it once at the end is enough
unfoldable pub plain_sum : List ℕ → ℕ → ℕ
plain_sum key zero = 0
plain_sum key (suc k) = plain_sum key k + slice_index key k

-- "found by a sum": of n entries the one at the sum's remainder is the first
unfoldable pub first_slot : ℕ → List ℕ → ℕ
first_slot n key = sum_to key words_per_entry % n

-- the next one, behind the last the first
unfoldable pub next : ℕ → ℕ → ℕ
next n j = cond (j + 1 == n) 0 (j + 1)

-- the one that is looked at after i others
unfoldable pub slot_at : ℕ → List ℕ → ℕ → ℕ
slot_at n key zero = first_slot n key
slot_at n key (suc i) = next n (slot_at n key i)

-- where looking stops: at an unused entry, or at the key's own
unfoldable pub stops : List ℕ → List ℕ → ℕ → Bool
stops table key j = not (is_used table j) || holds table key j

-- what it has found when it stopped after i others of n
unfoldable pub spot_at : List ℕ → List ℕ → ℕ → ℕ → Spot
spot_at table key n i = cond (nat_lt i n) (cond (is_used table (slot_at n key i)) Held (Free (slot_at n key i))) Nowhere

unfoldable pub found_in : List ℕ → List ℕ → ℕ → Spot
found_in table key n = spot_at table key n (first n (λ i. stops table key (slot_at n key i)))

-- ---- what the search asks of it

-- "whose ten words have been seen"
unfoldable pub is_seen : List ℕ → List ℕ → Bool
is_seen table key = some (entries_in table) (holds table key)

-- "it is full only when every entry is used"
unfoldable pub is_full : List ℕ → Bool
is_full table = every (entries_in table) (is_used table)

-- a key is entered at the first unused entry from its own slot on
unfoldable pub free_slot : List ℕ → List ℕ → ℕ
free_slot table key = let n = entries_in table in slot_at n key (first n (λ i. not (is_used table (slot_at n key i))))

unfoldable pub entered : List ℕ → List ℕ → List ℕ
entered table key = entry_put table (free_slot table key) key

-- what comes of a key, and the table then
pub record Remembered : Type 0 where
  pub entry : Entry
  pub table : List ℕ

abbrev pub remembered_of : Entry → List ℕ → Remembered
remembered_of entry table = record { entry = entry; table = table }

-- "While recording, .. a popped node whose ten words have been seen"; "a new entry needed and the table full"
unfoldable pub remembered : Bool → List ℕ → List ℕ → Remembered
remembered recording table key =
    cond recording
    (cond (is_seen table key) (remembered_of Seen table)
    (cond (is_full table) (remembered_of NoRoom table) (remembered_of New (entered table key))))
    (remembered_of New table)
