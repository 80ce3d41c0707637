-- The winner: word 1 of the tree is a queued place, it is `none` just where nothing is queued, and where no queued f is a NaN it is the least of the queued
-- places, the one that a scan over them finds. Assumes nothing.
use Prim.Native.Nat.{ℕ, zero, suc, ◌+◌, ◌*◌, ◌/◌, ◌≤◌, ◌<◌}
use native.Mathlib.Omega.{arith}
use native.Mathlib.Decide.{dec_lt}
use mathlib.Core.Path.{◌≡◌, sym, ◌∙◌, subst}
use mathlib.Core.Bool.{Bool, true, false, not}
use mathlib.Core.Logic.{◌⊎◌, inl, inr, ⊎_elim}
use mathlib.Core.List.{List}
use lib.Dec.{T}
use lib.ListN.{get_or}
use lib.Ieee.{Float, is_nan}
use Rattle.queue.specs.Queue.{none, before, better, least_of, Least, NoNan, Empty, Tree, tree_words}
use Rattle.queue.proofs.Order.{before_irreflexive, not_before_transitive, better_place_left, better_place_right, better_left, better_right}
use Rattle.queue.proofs.Scan.{held_queued, own_queued, none_if_empty, empty_if_none, least_unless_empty, told_unique, least_told}
use Rattle.queue.proofs.Words.{words_held, words_tree}

-- a number is twice its half, or one more
halves : (m : ℕ) → (m ≡ 2 * (m / 2)) ⊎ (m ≡ 2 * (m / 2) + 1)
halves m = go (dec_lt (2 * (m / 2)) m)
  where
    go : Dec (2 * (m / 2) < m) → (m ≡ 2 * (m / 2)) ⊎ (m ≡ 2 * (m / 2) + 1)
    go (yes l) = inr (omega arith)
    go (no l) = inl (omega arith)

module _ (f : ℕ → Float) (n : ℕ) (q : ℕ → Bool) (t : List ℕ) (e : Tree f n q t) (few : n ≤ none) where
  -- ---- from a word up to word 1

  module _ (R : ℕ → ℕ → Type 0) (same : (a : ℕ) → R a a)
      (up : (k : ℕ) → 0 < k → k < n → (v : ℕ) → R v (better f n (get_or t (2 * k) 0) (get_or t (2 * k + 1) 0))
      → R v (get_or t (2 * k) 0) × R v (get_or t (2 * k + 1) 0)) where
    climb : (d m : ℕ) → m ≤ d → 0 < m → m < 2 * n → R (get_or t 1 0) (get_or t m 0)
    climb zero m h z l = absurd (omega arith)
    climb (suc d) m h z l = go (climb d (m / 2)) (dec_lt 1 m)
      where
        go : (m / 2 ≤ d → 0 < m / 2 → m / 2 < 2 * n → R (get_or t 1 0) (get_or t (m / 2) 0)) → Dec (1 < m) → R (get_or t 1 0) (get_or t m 0)
        go r (yes g) =
            let above = r (omega arith) (omega arith) (omega arith) in
            let x = up (m / 2) (omega arith) (omega arith) (get_or t 1 0) (rw (e.inner (m / 2) (omega arith) (omega arith)) at above) in
            ⊎_elim (λ s. subst (λ (v : ℕ). R (get_or t 1 0) (get_or t v 0)) (sym s) x.0)
            (λ s. subst (λ (v : ℕ). R (get_or t 1 0) (get_or t v 0)) (sym s) x.1) (halves m)
        go r (no g) = let s : 1 ≡ m = omega arith in subst (λ (v : ℕ). R (get_or t 1 0) (get_or t v 0)) s (same (get_or t 1 0))

    -- a queued place's own word is the place
    to_place : (j : ℕ) → j < n → q j ≡ true → R (get_or t 1 0) j
    to_place j l g = subst (λ (v : ℕ). R (get_or t 1 0) v) (e.own j l ∙ own_queued q j g) (climb (n + j) (n + j) (omega arith) (omega arith) (omega arith))

  -- ---- word 1

  root_place : (j : ℕ) → j < n → q j ≡ true → get_or t 1 0 < n
  root_place j l g =
      to_place (λ v a. a < n → v < n) (λ a h. h)
      (λ k z m v r. (
        (λ h. r (better_place_left f n (get_or t (2 * k) 0) (get_or t (2 * k + 1) 0) h)),
        λ h. r (better_place_right f n (get_or t (2 * k) 0) (get_or t (2 * k + 1) 0) h),
      ))
      j l g l

  -- a queued place, or `none`
  pub root_held : 0 < n → (get_or t 1 0 ≡ none) ⊎ ((get_or t 1 0 < n) × (q (get_or t 1 0) ≡ true))
  root_held z = words_held f n q t e 1 (omega arith) (omega arith)

  pub root_below : 0 < n → (get_or t 1 0 ≡ none → ⊥) → get_or t 1 0 < n
  root_below z d = ⊎_elim (λ g. absurd (d g)) (λ g. g.0) (root_held z)

  -- `none` just where nothing is queued
  pub root_of_empty : 0 < n → Empty n q → get_or t 1 0 ≡ none
  root_of_empty z = none_if_empty f n q few (get_or t 1 0) (root_held z)

  pub root_none : get_or t 1 0 ≡ none → Empty n q
  root_none = empty_if_none f n q few (get_or t 1 0) root_place

  module _ (o : NoNan f n q) where
    no_nan : (k : ℕ) → 0 < k → k < 2 * n → get_or t k 0 < n → T (not (is_nan (f (get_or t k 0))))
    no_nan k z l h = o (get_or t k 0) h (held_queued n q (get_or t k 0) few (words_held f n q t e k z l) h)

    -- no place below word k is before word k, and so none is before word 1
    root_first : 0 < n → (j : ℕ) → j < n → q j ≡ true → before f j (get_or t 1 0) ≡ false
    root_first y j l g = to_place Behind (λ a _ h. before_irreflexive f a) up j l g (no_nan 1 (omega arith) (omega arith) (root_place j l g)) l
      where
        Behind : ℕ → ℕ → Type 0
        Behind v a = T (not (is_nan (f v))) → a < n → before f a v ≡ false

        up : (k : ℕ) → 0 < k → k < n → (v : ℕ) → Behind v (better f n (get_or t (2 * k) 0) (get_or t (2 * k + 1) 0))
            → Behind v (get_or t (2 * k) 0) × Behind v (get_or t (2 * k + 1) 0)
        up k z m v r = (left, right)
          where
            a : ℕ
            a = get_or t (2 * k) 0

            b : ℕ
            b = get_or t (2 * k + 1) 0

            na : a < n → T (not (is_nan (f a)))
            na = no_nan (2 * k) (omega arith) (omega arith)

            nb : b < n → T (not (is_nan (f b)))
            nb = no_nan (2 * k + 1) (omega arith) (omega arith)

            nw : better f n a b < n → T (not (is_nan (f (better f n a b))))
            nw = rw (e.inner k z m) at (no_nan k z (omega arith))

            left : Behind v a
            left nv h =
                let w = better_place_left f n a b h in
                not_before_transitive f a (better f n a b) (na h) (nw w) v nv (better_left f n a b h) (r nv w)

            right : Behind v b
            right nv h =
                let w = better_place_right f n a b h in
                not_before_transitive f b (better f n a b) (nb h) (nw w) v nv (better_right f n a b na h (nb h)) (r nv w)

  module _ (o : NoNan f n q) (y : 0 < n) where
    pub root_told : ((get_or t 1 0 ≡ none) × Empty n q) ⊎ Least f n q (get_or t 1 0)
    root_told = least_unless_empty f n q few (get_or t 1 0) (root_held y) root_place (root_first o y)

    -- what a scan over the queued places finds
    pub root_is_least : get_or t 1 0 ≡ least_of f n q
    root_is_least = told_unique f n q few o (get_or t 1 0) (least_of f n q) root_told (least_told f n q few o)

-- of the words that are the tree
pub words_root : (f : ℕ → Float) (n : ℕ) (q : ℕ → Bool) → 0 < n → n ≤ none → NoNan f n q → get_or (tree_words f n q) 1 0 ≡ least_of f n q
words_root f n q y few o = root_is_least f n q (tree_words f n q) (words_tree f n q) few o y
