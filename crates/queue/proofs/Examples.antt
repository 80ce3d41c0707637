-- Small queues, computed: the words of the tree and the least place, with a tie, an infinity and a number of places that is no power of two. Assumes nothing.
use Prim.Native.Nat.{ℕ}
use mathlib.Core.Path.{◌≡◌, refl}
use mathlib.Core.Bool.{Bool, true, false}
use mathlib.Core.List.{[], ◌∷◌}
use lib.ListN.{get_or}
use lib.Ieee.{Float, nan, inf, binary32, of_bits, lt, eq}
use Rattle.counts.specs.Counts.{table}
use Rattle.queue.specs.Queue.{none, before, better, own_of, least_below, least_of, word_at, tree_words}

-- 2, 1, infinity, 1 and 0.5
fs : ℕ → Float
fs i = get_or (of_bits binary32 0x40000000 ∷ of_bits binary32 0x3F800000 ∷ inf false ∷ of_bits binary32 0x3F800000 ∷ of_bits binary32 0x3F000000 ∷ []) i nan

-- all places but 4
but4 : ℕ → Bool
but4 i = get_or (true ∷ true ∷ true ∷ true ∷ false ∷ []) i false

-- place 2 alone
only2 : ℕ → Bool
only2 i = get_or (false ∷ false ∷ true ∷ false ∷ false ∷ []) i false

-- of the two places at 1 the lower
tie : least_of fs 5 but4 ≡ 1
unfolding fs but4 least_of least_below better before own_of of_bits lt eq
tie = refl

-- an infinite f is queued like any other
infinite : least_of fs 5 only2 ≡ 2
unfolding fs only2 least_of least_below better before own_of of_bits lt eq
infinite = refl

-- five places: words 5 to 9 are the places' own, and word 1 takes place 1 from the right though place 3 stands to the left
words : tree_words fs 5 but4 ≡ none ∷ 1 ∷ 3 ∷ 1 ∷ 3 ∷ 0 ∷ 1 ∷ 2 ∷ 3 ∷ none ∷ []
unfolding fs but4 tree_words word_at table better before own_of of_bits lt eq
words = refl
