-- The tree's words: there is exactly one list of 2n words that is the tree of a set of places, and `tree_words` is it. It depends on which places are
-- queued and on their f alone. Assumes nothing.
use Prim.Native.Nat.{ℕ, zero, suc, ◌+◌, ◌-◌, ◌*◌, ◌≤◌, ◌<◌}
use native.Mathlib.Omega.{arith}
use native.Mathlib.Decide.{dec_lt}
use mathlib.Core.Path.{◌≡◌, refl, sym, ap, ap₂, ◌∙◌, subst}
use mathlib.Core.Bool.{Bool, true, cond}
use mathlib.Core.List.{List, ◌++◌}
use borrow.Author.Tests.{le-leb, lt-leb, ne_eqb}
use lib.ListN.{length, get_or, take, drop, length-append, take-append-drop, get_or-append}
use lib.Seq.{ext_get_or, get_or-take, take_all, length-take-le}
use lib.Ieee.{Float}
use Rattle.counts.proofs.Laws.{length_table, get_or_table}
use Rattle.queue.specs.Queue.{none, better, own_of, Empty, Tree, word_at, tree_words}
use Rattle.queue.proofs.Order.{better_cases}
use Rattle.queue.proofs.Scan.{Held, held_own, better_alike, own_same}

-- ---- a word of the tree is a own_of, or the better of two words that stand further back

own_number : (n k : ℕ) → n ≤ k → n + (k - n) ≡ k
own_number n k l = omega arith

-- so what the leaves have and the better of two keeps, each word has: d is how far from the end word k stands at most
module _ (f : ℕ → Float) (n : ℕ) (q : ℕ → Bool) (t : List ℕ) (e : Tree f n q t) where
  module _ (P : ℕ → ℕ → Type 0) (own : (i : ℕ) → i < n → P (n + i) (own_of i (q i)))
      (inner : (k : ℕ) → 0 < k → k < n → P (2 * k) (get_or t (2 * k) 0) → P (2 * k + 1) (get_or t (2 * k + 1) 0)
      → P k (better f n (get_or t (2 * k) 0) (get_or t (2 * k + 1) 0))) where
    each_from : (d k : ℕ) → 0 < k → k < 2 * n → 2 * n ≤ k + d → P k (get_or t k 0)
    each_from zero k z l h = absurd (omega arith)
    each_from (suc d) k z l h = go (dec_lt k n) (each_from d (2 * k)) (each_from d (2 * k + 1))
      where
        go : Dec (k < n) → (0 < 2 * k → 2 * k < 2 * n → 2 * n ≤ 2 * k + d → P (2 * k) (get_or t (2 * k) 0))
            → (0 < 2 * k + 1 → 2 * k + 1 < 2 * n → 2 * n ≤ 2 * k + 1 + d → P (2 * k + 1) (get_or t (2 * k + 1) 0)) → P k (get_or t k 0)
        go (yes g) a b = rw (e.inner k z g) (inner k z g (a (omega arith) (omega arith) (omega arith)) (b (omega arith) (omega arith) (omega arith)))
        go (no g) a b =
            let i : k - n < n = omega arith in
            subst (λ (v : ℕ). P v (get_or t v 0)) (own_number n k (omega arith)) (rw (e.own (k - n) i) (own (k - n) i))

    pub each_word : (k : ℕ) → 0 < k → k < 2 * n → P k (get_or t k 0)
    each_word k z l = each_from (2 * n) k z l (omega arith)

  -- each is no place, or a queued one
  pub words_held : (k : ℕ) → 0 < k → k < 2 * n → Held n q (get_or t k 0)
  words_held =
      each_word (λ k w. Held n q w) (λ i l. held_own n q i l)
      (λ k z l a b. better_cases f n (get_or t (2 * k) 0) (get_or t (2 * k + 1) 0) (Held n q) a b)

-- ---- one list alone

module _ (f : ℕ → Float) (n : ℕ) (q : ℕ → Bool) (t u : List ℕ) (a : Tree f n q t) (b : Tree f n q u) where
  same_word : (k : ℕ) → 0 < k → k < 2 * n → get_or t k 0 ≡ get_or u k 0
  same_word =
      each_word f n q t a (λ k w. w ≡ get_or u k 0) (λ i l. sym (b.own i l))
      (λ k z l x y. ap₂ (better f n) x y ∙ sym (b.inner k z l))

  pub tree_unique : take (2 * n) t ≡ take (2 * n) u
  tree_unique =
      ext_get_or 0 (take (2 * n) t) (take (2 * n) u) (long t a.size ∙ sym (long u b.size))
      (λ k l. let h : k < 2 * n = subst (λ (v : ℕ). k < v) (long t a.size) l in get_or-take (2 * n) t k 0 h ∙ at k h ∙ sym (get_or-take (2 * n) u k 0 h))
    where
      long : (s : List ℕ) → 2 * n ≤ length s → length (take (2 * n) s) ≡ 2 * n
      long s l = length-take-le (2 * n) s l

      at : (k : ℕ) → k < 2 * n → get_or t k 0 ≡ get_or u k 0
      at zero l = a.unused (omega arith) ∙ sym (b.unused (omega arith))
      at (suc k) l = same_word (suc k) (omega arith) l

-- ---- that list

module _ (f : ℕ → Float) (n : ℕ) (q : ℕ → Bool) where
  word_own : (d k : ℕ) → 0 < d → n ≤ k → word_at f n q d k ≡ own_of (k - n) (q (k - n))
  unfolding word_at
  word_own zero k z l = absurd (omega arith)
  word_own (suc d) k z l = rw (le-leb n k l)

  word_inner : (d k : ℕ) → k < n → word_at f n q (suc d) k ≡ better f n (word_at f n q d (2 * k)) (word_at f n q d (2 * k + 1))
  unfolding word_at
  word_inner d k l = rw (lt-leb n k l)

  -- how many levels are allowed does not matter, where they are enough
  word_levels : (d e k : ℕ) → 0 < k → k < 2 * n → 2 * n ≤ k + d → 2 * n ≤ k + e → word_at f n q d k ≡ word_at f n q e k
  word_levels zero e k z l h g = absurd (omega arith)
  word_levels (suc d) zero k z l h g = absurd (omega arith)
  word_levels (suc d) (suc e) k z l h g = go (word_levels d e (2 * k)) (word_levels d e (2 * k + 1)) (dec_lt k n)
    where
      go : (0 < 2 * k → 2 * k < 2 * n → 2 * n ≤ 2 * k + d → 2 * n ≤ 2 * k + e → word_at f n q d (2 * k) ≡ word_at f n q e (2 * k))
          → (0 < 2 * k + 1 → 2 * k + 1 < 2 * n → 2 * n ≤ 2 * k + 1 + d → 2 * n ≤ 2 * k + 1 + e → word_at f n q d (2 * k + 1) ≡ word_at f n q e (2 * k + 1))
          → Dec (k < n) → word_at f n q (suc d) k ≡ word_at f n q (suc e) k
      go a b (yes m) =
          word_inner d k m
          ∙ ap₂ (better f n) (a (omega arith) (omega arith) (omega arith) (omega arith)) (b (omega arith) (omega arith) (omega arith) (omega arith))
          ∙ sym (word_inner e k m)
      go a b (no m) = word_own (suc d) k (omega arith) (omega arith) ∙ sym (word_own (suc e) k (omega arith) (omega arith))

  word_of : (k : ℕ) → 0 < k → k < 2 * n → get_or (tree_words f n q) k 0 ≡ word_at f n q (2 * n) k
  unfolding tree_words
  word_of k z l = get_or_table (2 * n) _ k 0 l ∙ ap (λ (b : Bool). cond b none (word_at f n q (2 * n) k)) (ne_eqb k 0 (omega arith))

  word_zero : 0 < n → get_or (tree_words f n q) 0 0 ≡ none
  unfolding tree_words
  word_zero l = get_or_table (2 * n) _ 0 0 (omega arith)

  pub words_length : length (tree_words f n q) ≡ 2 * n
  unfolding tree_words
  words_length = length_table (2 * n) _

  pub words_tree : Tree f n q (tree_words f n q)
  words_tree = record {
    size = rw words_length (omega arith);
    unused = word_zero;
    own = λ i l. word_of (n + i) (omega arith) (omega arith) ∙ word_own (2 * n) (n + i) (omega arith) (omega arith) ∙ ap (λ (j : ℕ). own_of j (q j)) (back i);
    inner = λ k z l. word_of k z (omega arith) ∙ inner k z l;
  }
    where
      back : (i : ℕ) → n + i - n ≡ i
      back i = omega arith

      inner : (k : ℕ) → 0 < k → k < n → word_at f n q (2 * n) k ≡ better f n (get_or (tree_words f n q) (2 * k) 0) (get_or (tree_words f n q) (2 * k + 1) 0)
      inner k z l =
          let d = 2 * n - 1 in
          let s : 2 * n ≡ suc d = omega arith in
          ap (λ (v : ℕ). word_at f n q v k) s ∙ word_inner d k l
          ∙ ap₂ (better f n)
          (word_levels d (2 * n) (2 * k) (omega arith) (omega arith) (omega arith) (omega arith) ∙ sym (word_of (2 * k) (omega arith) (omega arith)))
          (word_levels d (2 * n) (2 * k + 1) (omega arith) (omega arith) (omega arith) (omega arith) ∙ sym (word_of (2 * k + 1) (omega arith) (omega arith)))

  -- the front is these words, and the rest may be anything
  pub tree_front : (t : List ℕ) → Tree f n q t → take (2 * n) t ≡ tree_words f n q
  tree_front t e =
      tree_unique f n q t (tree_words f n q) e words_tree ∙ take_all (2 * n) (tree_words f n q) (rw words_length (omega arith))

  pub tree_is : (t : List ℕ) → Tree f n q t → t ≡ tree_words f n q ++ drop (2 * n) t
  tree_is t e = sym (take-append-drop (2 * n) t) ∙ ap (λ (s : List ℕ). s ++ drop (2 * n) t) (tree_front t e)

  pub tree_whole : (t : List ℕ) → length t ≡ 2 * n → Tree f n q t → t ≡ tree_words f n q
  tree_whole t s e = sym (take_all (2 * n) t (omega arith)) ∙ tree_front t e

  -- the words are the tree with whatever stands after them
  pub is_tree : (r : List ℕ) → Tree f n q (tree_words f n q ++ r)
  is_tree r = record {
    size = simp (length-append, words_length) (omega arith);
    unused = λ l. front 0 (omega arith) ∙ words_tree.unused l;
    own = λ i l. front (n + i) (omega arith) ∙ words_tree.own i l;
    inner = λ k z l. front k (omega arith) ∙ words_tree.inner k z l ∙ sym (ap₂ (better f n) (front (2 * k) (omega arith)) (front (2 * k + 1) (omega arith)));
  }
    where
      front : (k : ℕ) → k < 2 * n → get_or (tree_words f n q ++ r) k 0 ≡ get_or (tree_words f n q) k 0
      front k l = get_or-append (tree_words f n q) r 0 k (rw words_length l)

-- ---- only which places are queued matters, and their f

module _ (f g : ℕ → Float) (n : ℕ) (q p : ℕ → Bool) (few : n ≤ none) (qp : (i : ℕ) → i < n → q i ≡ p i) (fg : (i : ℕ) → i < n → q i ≡ true → f i ≡ g i) where
  pub tree_same : (t : List ℕ) → Tree f n q t → Tree g n p t
  tree_same t e = record {
    size = e.size;
    unused = e.unused;
    own = λ i l. e.own i l ∙ own_same f g n q p few qp fg i l;
    inner = λ k z l.
        e.inner k z l
        ∙ better_alike f g n q p few qp fg (get_or t (2 * k) 0) (get_or t (2 * k + 1) 0) (words_held f n q t e (2 * k) (omega arith) (omega arith))
        (words_held f n q t e (2 * k + 1) (omega arith) (omega arith));
  }

  pub words_same : tree_words f n q ≡ tree_words g n p
  words_same =
      sym (take_all (2 * n) (tree_words f n q) (rw (words_length f n q) (omega arith)))
      ∙ tree_front g n p (tree_words f n q) (tree_same (tree_words f n q) (words_tree f n q))

-- ---- the tree of no queued place

module _ (f : ℕ → Float) (n : ℕ) (q : ℕ → Bool) (z : Empty n q) where
  none_own : (i : ℕ) → i < n → none ≡ own_of i (q i)
  unfolding own_of
  none_own i l = rw (z i l)

  pub empty_tree : (t : List ℕ) → 2 * n ≤ length t → ((k : ℕ) → k < 2 * n → get_or t k 0 ≡ none) → Tree f n q t
  empty_tree t l h = record {
    size = l;
    unused = λ y. h 0 (omega arith);
    own = λ i g. h (n + i) (omega arith) ∙ none_own i g;
    inner = λ k y g. h k (omega arith) ∙ sym (ap₂ (better f n) (h (2 * k) (omega arith)) (h (2 * k + 1) (omega arith)) ∙ both);
  }
    where
      both : better f n none none ≡ none
      both = better_cases f n none none (λ w. w ≡ none) refl refl
