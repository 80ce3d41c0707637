-- What is lent: a place's f stands inside the lent floats, a stored `none` moves the cleared front on by one, and a cleared front is the tree of no queued
-- place. Assumes nothing.
use Prim.Native.Nat.{ℕ, suc, ◌+◌, ◌*◌, ◌≤◌, ◌<◌}
use native.Mathlib.Omega.{arith}
use native.Mathlib.Nat.{mul-le-mul_right}
use native.Mathlib.Numerals.{add-one}
use mathlib.Core.Path.{◌≡◌, refl, sym, ap, ◌∙◌}
use mathlib.Core.Bool.{Bool}
use mathlib.Core.List.{List, ◌++◌}
use lib.ListN.{length, get_or, set, drop, replicate, length-append, length-drop, length-replicate, get_or-replicate, replicate-append-replicate, get_or-append}
use lib.Seq.{drop-cons, set_at, append_snoc}
use lib.Ieee.{Float}
use Rattle.queue.specs.Queue.{none, Empty, Tree}
use Rattle.queue.specs.Words.{Rows, cleared}
use Rattle.queue.proofs.Words.{empty_tree}

-- ---- the floats

pub row_inside : (n stride at : ℕ) (fs : List Float) → Rows n stride at fs → (i : ℕ) → i < n → i * stride + at < length fs
row_inside n stride at fs r i l = omega (arith, mul-le-mul_right stride l)

-- ---- the words

pub cleared_none : (t : List ℕ) → t ≡ cleared 0 t
unfolding cleared
cleared_none t = refl

pub cleared_one_more : (k : ℕ) (t : List ℕ) → k < length t → set (cleared k t) k none ≡ cleared (k + 1) t
unfolding cleared
cleared_one_more k t l =
    ap (λ (s : List ℕ). set (replicate k none ++ s) k none) (drop-cons t k 0 l)
    ∙ set_at (replicate k none) (get_or t k 0) (drop (suc k) t) none k (length-replicate k none)
    ∙ sym (append_snoc (replicate k none) none (drop (suc k) t))
    ∙ ap (λ (s : List ℕ). s ++ drop (suc k) t) (replicate-append-replicate k 1 none)
    ∙ ap (λ (m : ℕ). replicate (k + 1) none ++ drop m t) (sym (add-one k))

pub cleared_length : (m : ℕ) (t : List ℕ) → m ≤ length t → length (cleared m t) ≡ length t
unfolding cleared
cleared_length m t l = simp (length-append, length-replicate, length-drop) (omega arith)

pub cleared_word : (m : ℕ) (t : List ℕ) (k : ℕ) → k < m → get_or (cleared m t) k 0 ≡ none
unfolding cleared
cleared_word m t k l =
    get_or-append (replicate m none) (drop m t) 0 k (rw (length-replicate m none) l) ∙ get_or-replicate m k none 0 l

pub cleared_tree : (f : ℕ → Float) (n : ℕ) (q : ℕ → Bool) (t : List ℕ) → 2 * n ≤ length t → Empty n q → Tree f n q (cleared (2 * n) t)
cleared_tree f n q t l z = empty_tree f n q z (cleared (2 * n) t) (rw (cleared_length (2 * n) t l) l) (cleared_word (2 * n) t)
