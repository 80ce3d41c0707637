-- A queue in lent words. Whatever the words were, `queue_of` makes them the tree of the places that are meant: the words then say which these are, word 1 is
-- the least of them, there are as many words as before, and those behind stay. And words that are a tree are such a queue already. Assumes nothing.
use Prim.Native.Nat.{ℕ, ◌*◌, ◌≤◌, ◌<◌}
use native.Mathlib.Omega.{arith}
use mathlib.Core.Path.{◌≡◌, refl, sym, ap, ◌∙◌}
use mathlib.Core.Bool.{Bool, true, false, cond}
use mathlib.Core.List.{List, ◌++◌}
use borrow.Author.Tests.{eq-eqb, ne_eqb, eqb-true, eqb-false}
use lib.Dec.{eqb}
use lib.Ieee.{Float}
use lib.ListN.{length, get_or, drop, replicate, length-append, length-drop, length-replicate}
use lib.Seq.{drop_at}
use Rattle.std.specs.Prelude.{Some, None}
use Rattle.queue.specs.Queue.{none, own_of, place_named, put, least_of, NoNan, Empty, Tree, tree_words}
use Rattle.queue.specs.Words.{queued_in, cleared, queue_of}
use Rattle.queue.proofs.Words.{words_length, tree_is, is_tree, tree_same, words_same}
use Rattle.queue.proofs.Winner.{root_is_least}
use Rattle.queue.proofs.Lent.{cleared_tree}

-- ---- one place put in or taken out

pub put_same : (q : ℕ → Bool) (i : ℕ) (b : Bool) → put q i b i ≡ b
unfolding put
put_same q i b = rw (eq-eqb i i refl)

pub put_other : (q : ℕ → Bool) (i : ℕ) (b : Bool) (j : ℕ) → (j ≡ i → ⊥) → put q i b j ≡ q j
unfolding put
put_other q i b j d = rw (ne_eqb j i d)

-- ---- the place that a word stands for

pub named_none : (w : ℕ) → place_named w ≡ None → w ≡ none
named_none w e = go (eqb w none) refl e
  where
    go : (b : Bool) → eqb w none ≡ b → cond b None (Some w) ≡ None → w ≡ none
    go true h e = eqb-true w none h
    go false h e = cc

pub named_some : (w i : ℕ) → place_named w ≡ Some i → (i ≡ w) × (i ≡ none → ⊥)
named_some w i e = go (eqb w none) refl e
  where
    go : (b : Bool) → eqb w none ≡ b → cond b None (Some w) ≡ Some i → (i ≡ w) × (i ≡ none → ⊥)
    go true h e = cc
    go false h e = let same : i ≡ w = cc in (same, λ g. eqb-false w none h (sym same ∙ g))

-- ---- which places are queued, read off the words

own_read : (i : ℕ) (b : Bool) → i < none → eqb (own_of i b) i ≡ b
unfolding own_of
own_read i true l = eq-eqb i i refl
own_read i false l = ne_eqb none i (λ e. omega arith)

-- the set is in the words
pub queued_is : (f : ℕ → Float) (n : ℕ) (q : ℕ → Bool) (t : List ℕ) → n ≤ none → Tree f n q t → (i : ℕ) → i < n → queued_in n t i ≡ q i
unfolding queued_in
queued_is f n q t few e i l = rw (e.own i l) (own_read i (q i) (omega arith))

-- so the words are the tree of the set that they say
pub tree_of_own : (f : ℕ → Float) (n : ℕ) (q : ℕ → Bool) (t : List ℕ) → n ≤ none → Tree f n q t → Tree f n (queued_in n t) t
tree_of_own f n q t few e = tree_same f f n q (queued_in n t) few (λ i l. sym (queued_is f n q t few e i l)) (λ i l h. refl) t e

-- ---- the queue of some places

module _ (f : ℕ → Float) (n : ℕ) (q : ℕ → Bool) (t : List ℕ) where
  pub queue_tree : Tree f n q (queue_of f n q t)
  unfolding queue_of
  queue_tree = is_tree f n q (drop (2 * n) t)

  pub queue_length : 2 * n ≤ length t → length (queue_of f n q t) ≡ length t
  unfolding queue_of
  queue_length l = simp (length-append, words_length, length-drop) (omega arith)

  pub queue_behind : drop (2 * n) (queue_of f n q t) ≡ drop (2 * n) t
  unfolding queue_of
  queue_behind = drop_at (tree_words f n q) (drop (2 * n) t) (2 * n) (words_length f n q)

  -- words that are its tree are it
  pub tree_is_queue : Tree f n q t → t ≡ queue_of f n q t
  unfolding queue_of
  tree_is_queue e = tree_is f n q t e

  module _ (few : n ≤ none) where
    -- its words say its places,
    pub queue_says : (i : ℕ) → i < n → queued_in n (queue_of f n q t) i ≡ q i
    queue_says = queued_is f n q (queue_of f n q t) few queue_tree

    pub queue_own_tree : Tree f n (queued_in n (queue_of f n q t)) (queue_of f n q t)
    queue_own_tree = tree_of_own f n q (queue_of f n q t) few queue_tree

    -- and word 1 is the least of them
    pub queue_root : 0 < n → NoNan f n q → get_or (queue_of f n q t) 1 0 ≡ least_of f n q
    queue_root z o = root_is_least f n q (queue_of f n q t) queue_tree few o z

-- only which places are queued matters, their f, and the words behind
pub queue_same : (f g : ℕ → Float) (n : ℕ) (q p : ℕ → Bool) (t u : List ℕ) → n ≤ none → ((i : ℕ) → i < n → q i ≡ p i)
    → ((i : ℕ) → i < n → q i ≡ true → f i ≡ g i) → drop (2 * n) t ≡ drop (2 * n) u → queue_of f n q t ≡ queue_of g n p u
unfolding queue_of
queue_same f g n q p t u few qp fg r = ap (λ (s : List ℕ). s ++ drop (2 * n) t) (words_same f g n q p few qp fg) ∙ ap (λ (s : List ℕ). tree_words g n p ++ s) r

-- cleared words are the queue of no place
pub cleared_is_queue : (f : ℕ → Float) (n : ℕ) (q : ℕ → Bool) (t : List ℕ) → 2 * n ≤ length t → Empty n q → cleared (2 * n) t ≡ queue_of f n q t
unfolding queue_of cleared
cleared_is_queue f n q t l z =
    tree_is f n q (cleared (2 * n) t) (cleared_tree f n q t l z)
    ∙ ap (λ (s : List ℕ). tree_words f n q ++ s) (drop_at (replicate (2 * n) none) (drop (2 * n) t) (2 * n) (length-replicate (2 * n) none))
