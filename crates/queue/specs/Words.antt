-- The queue's words and the floats as they are lent: which places the words say are queued, and the words of a queue with given places in it. Definitions only.
-- Assumes nothing.
use Rattle.std.specs.Prelude.{ℕ, ◌+◌, ◌*◌, ◌≤◌, ◌<◌, Bool, List, ◌++◌, eqb, length, get_or, drop, replicate, Float}
use Rattle.std.specs.Float.{nan}
use Rattle.queue.specs.Queue.{none, tree_words}

-- ---- what is lent

-- the f of each place: the lent floats are rows of `stride`, a row a place, and its f stands at number `at` of the row
unfoldable pub column : List Float → ℕ → ℕ → ℕ → Float
column fs stride at i = get_or fs (i * stride + at) nan

-- there is a row for each of the n places, and the f is in the row
pub record Rows (n stride at : ℕ) (fs : List Float) : Type 0 where
  pub in_row : at < stride
  pub rows : n * stride ≤ length fs

-- there are two words a place at least, and no place is `none`
pub record Room (n : ℕ) (t : List ℕ) : Type 0 where
  pub few : n ≤ none
  pub size : 2 * n ≤ length t

-- which places are queued, read off the words: a place is where its own word is the place
unfoldable pub queued_in : ℕ → List ℕ → ℕ → Bool
queued_in n t i = eqb (get_or t (n + i) 0) i

-- the first m words are `none`
unfoldable pub cleared : ℕ → List ℕ → List ℕ
cleared m t = replicate m none ++ drop m t

-- the words with these places queued and no others: the first 2n are the tree's, and those behind stay
unfoldable pub queue_of : (ℕ → Float) → ℕ → (ℕ → Bool) → List ℕ → List ℕ
queue_of f n q t = tree_words f n q ++ drop (2 * n) t
