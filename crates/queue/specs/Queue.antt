-- The queue: of the n places some are queued, each has its f, and the least of them is popped. And the tree that finds it: words of which each is
-- the better of two others. Definitions only. Assumes nothing.
use Rattle.std.specs.Prelude.{ℕ, zero, suc, ◌+◌, ◌-◌, ◌*◌, ◌≤◌, ◌<◌, ◌≡◌, Bool, true, false, not, ◌&&◌, ◌||◌, cond, Option, Some, None, List, T, leb, ltb, eqb, length, get_or, Float}
use Rattle.std.specs.Float.Ieee.{is_nan, lt, eq}
use Rattle.counts.specs.Counts.{table}

-- ---- the order

-- the word that stands for no place
abbrev pub none : ℕ
none = 0xFFFFFFFF

-- 01, The search: "least f = distance + heuristic, equal f by lower place"
unfoldable pub before : (ℕ → Float) → ℕ → ℕ → Bool
before f i j = lt (f i) (f j) || (eq (f i) (f j) && ltb i j)

-- of two words of which one at most is one of the n places, that one
unfoldable pub lone_of : ℕ → ℕ → ℕ → ℕ
lone_of n a b = cond (leb n a) b a

-- the better of two words; one that is none of the n places, as `none`, loses
unfoldable pub better : (ℕ → Float) → ℕ → ℕ → ℕ → ℕ
better f n a b = cond (leb n a) b (cond (leb n b) a (cond (before f a b) a b))

-- the place that a word stands for, if it stands for one
abbrev pub place_named : ℕ → Option ℕ
place_named w = cond (eqb w none) None (Some w)

-- ---- the queue: a set of places

-- place i's own word: the place if it is queued
unfoldable pub own_of : ℕ → Bool → ℕ
own_of i b = cond b i none

-- the set with place i in it, or not in it, and else as it was
unfoldable pub put : (ℕ → Bool) → ℕ → Bool → ℕ → Bool
put q i b j = cond (eqb j i) b (q j)

-- the best of the queued places below m
unfoldable pub least_below : (ℕ → Float) → ℕ → (ℕ → Bool) → ℕ → ℕ
least_below f n q zero = none
least_below f n q (suc m) = better f n (least_below f n q m) (own_of m (q m))

-- 01, The search: "pop the node of least f = distance + heuristic, equal f by lower place". The place, or `none` where the queue is empty.
unfoldable pub least_of : (ℕ → Float) → ℕ → (ℕ → Bool) → ℕ
least_of f n q = least_below f n q n

-- what "least" means of a place, said without a scan: it is queued, and no queued place is before it
pub record Least (f : ℕ → Float) (n : ℕ) (q : ℕ → Bool) (w : ℕ) : Type 0 where
  pub place : w < n
  pub queued : q w ≡ true
  pub first : (j : ℕ) → j < n → q j ≡ true → before f j w ≡ false

-- no queued place's f is a NaN
abbrev pub NoNan : (ℕ → Float) → ℕ → (ℕ → Bool) → Type 0
NoNan f n q = (i : ℕ) → i < n → q i ≡ true → T (not (is_nan (f i)))

-- nothing is queued
abbrev pub Empty : ℕ → (ℕ → Bool) → Type 0
Empty n q = (i : ℕ) → i < n → q i ≡ false

-- ---- the tree

-- The first 2n words of a list are the tree. Word n + i is place i's own, each word k from 1 below n is the better of words 2k and 2k + 1, and word 0 is
-- `none`.
pub record Tree (f : ℕ → Float) (n : ℕ) (q : ℕ → Bool) (t : List ℕ) : Type 0 where
  pub size : 2 * n ≤ length t
  pub unused : 0 < n → get_or t 0 0 ≡ none
  pub own : (i : ℕ) → i < n → get_or t (n + i) 0 ≡ own_of i (q i)
  pub inner : (k : ℕ) → 0 < k → k < n → get_or t k 0 ≡ better f n (get_or t (2 * k) 0) (get_or t (2 * k + 1) 0)

-- word k of the tree, d levels deep at most
unfoldable pub word_at : (ℕ → Float) → ℕ → (ℕ → Bool) → ℕ → ℕ → ℕ
word_at f n q zero k = none
word_at f n q (suc d) k =
    let inner = better f n (word_at f n q d (2 * k)) (word_at f n q d (2 * k + 1)) in
    cond (leb n k) (own_of (k - n) (q (k - n))) inner

-- all its words: a list is a Tree just where it begins so
unfoldable pub tree_words : (ℕ → Float) → ℕ → (ℕ → Bool) → List ℕ
tree_words f n q = table (2 * n) (λ k. cond (eqb k 0) none (word_at f n q (2 * n) k))
