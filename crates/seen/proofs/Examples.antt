-- A table of two entries, computed: a key that is entered is seen and another is not, two keys of one slot fill it, a third finds no room, and a sum wraps.
-- Assumes nothing.
use Rattle.std.proofs.Common.{◌≡◌, ℕ, true, false, List, [], ◌∷◌, replicate, refl}
use Rattle.counts.specs.Counts.{every, some, first}
use Rattle.queue.specs.Words.{cleared}
use Rattle.seen.specs.declared.Entry.TheVariants.{NoRoom}
use Rattle.seen.specs.Table.{words_per_entry, entries_in, entry_word, is_used, holds, laid_out, stored_to, entry_put, sum_to, first_slot, next, slot_at}
use Rattle.seen.specs.Table.{is_seen, is_full, free_slot, entered, remembered}

-- twenty-three words: two entries, and three words behind them
empty : List ℕ
empty = laid_out (replicate 23 0)

-- sums 5, 5 and 4: the first two have the slot 1, the third the slot 0
this : List ℕ
this = 1 ∷ 2 ∷ 0 ∷ 0 ∷ 0 ∷ 0 ∷ 0 ∷ 0 ∷ 0 ∷ 2 ∷ []

that : List ℕ
that = 2 ∷ 1 ∷ 0 ∷ 0 ∷ 0 ∷ 0 ∷ 0 ∷ 0 ∷ 0 ∷ 2 ∷ []

third : List ℕ
third = 1 ∷ 1 ∷ 0 ∷ 0 ∷ 0 ∷ 0 ∷ 0 ∷ 0 ∷ 0 ∷ 2 ∷ []

-- the second goes behind the last entry, to the first
holding_two : entered (entered empty this) that ≡ 2 ∷ 1 ∷ 0 ∷ 0 ∷ 0 ∷ 0 ∷ 0 ∷ 0 ∷ 0 ∷ 2 ∷ 1 ∷ 2 ∷ 0 ∷ 0 ∷ 0 ∷ 0 ∷ 0 ∷ 0 ∷ 0 ∷ 2 ∷ 0 ∷ 0 ∷ 0 ∷ []
unfolding empty this that cleared first entries_in entry_word is_used laid_out stored_to entry_put sum_to first_slot next slot_at free_slot entered
holding_two = refl

this_seen : is_seen (entered empty this) this ≡ true
unfolding empty this cleared every some first entries_in entry_word is_used holds laid_out stored_to entry_put sum_to first_slot next slot_at is_seen
    free_slot entered
this_seen = refl

that_unseen : is_seen (entered empty this) that ≡ false
unfolding empty this that cleared every some first entries_in entry_word is_used holds laid_out stored_to entry_put sum_to first_slot next slot_at is_seen
    free_slot entered
that_unseen = refl

no_room : (remembered true (entered (entered empty this) that) third).entry ≡ NoRoom
unfolding empty this that third cleared every some first entries_in entry_word is_used holds laid_out stored_to entry_put sum_to first_slot next slot_at is_seen is_full
    free_slot entered remembered
no_room = refl

-- all ones and one are nothing, since the sum wraps
sum_wraps : sum_to (0xFFFFFFFF ∷ 1 ∷ 0 ∷ 0 ∷ 0 ∷ 0 ∷ 0 ∷ 0 ∷ 0 ∷ 7 ∷ []) words_per_entry ≡ 7
unfolding sum_to
sum_wraps = refl
