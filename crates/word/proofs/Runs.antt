-- A run of elements that is read, and one that was stored with `sets`: where they lie apart nothing changes, where they are the same run what was
-- stored is read. Assumes nothing.
use Prim.Native.Nat.{ℕ, zero, suc, ◌+◌, ◌-◌, ◌≤◌, ◌<◌}
use mathlib.Core.Path.{◌≡◌, refl, sym, ap, ◌∙◌}
use mathlib.Core.Logic.{◌⊎◌, inl, inr}
use mathlib.Core.List.{List, [], ◌∷◌, ◌++◌, append_assoc}
use native.Mathlib.Omega.{arith}
use lib.ListN.{length, get_or, take, drop, set, length-drop}
use lib.Seq.{sets, sets-eq, take_at, drop_at, get_or-set_other, drop-set-lt, drop-set-add, take-set-le, length-take-le, drop-cons, set-get_or}

-- ---- the run that is read and the run that was stored lie apart

module _ (n i : ℕ) where
  apart_set : (l : List ℕ) (j a : ℕ) → (j < i) ⊎ (i + n ≤ j) → take n (drop i (set l j a)) ≡ take n (drop i l)
  apart_set l j a (inl h) = ap (take n) (drop-set-lt i l j a h)
  apart_set l j a (inr h) =
      let e : i + (j - i) ≡ j = omega arith in
      ap (λ (k : ℕ). take n (drop i (set l k a))) (sym e) ∙ ap (take n) (drop-set-add i l (j - i) a) ∙ take-set-le n (drop i l) (j - i) a (omega arith)

  pub apart_sets : (vs l : List ℕ) (j : ℕ) → (j + length vs ≤ i) ⊎ (i + n ≤ j) → take n (drop i (sets l j vs)) ≡ take n (drop i l)
  apart_sets [] l j h = refl
  apart_sets (v ∷ vs) l j (inl h) = apart_sets vs (set l j v) (suc j) (inl (omega arith)) ∙ apart_set l j v (inl (omega arith))
  apart_sets (v ∷ vs) l j (inr h) = apart_sets vs (set l j v) (suc j) (inr (omega arith)) ∙ apart_set l j v (inr h)

pub apart_byte : (i d : ℕ) (vs l : List ℕ) (j : ℕ) → (i < j) ⊎ (j + length vs ≤ i) → get_or (sets l j vs) i d ≡ get_or l i d
apart_byte i d [] l j h = refl
apart_byte i d (v ∷ vs) l j (inl h) = apart_byte i d vs (set l j v) (suc j) (inl (omega arith)) ∙ get_or-set_other l j i v d (omega arith)
apart_byte i d (v ∷ vs) l j (inr h) = apart_byte i d vs (set l j v) (suc j) (inr (omega arith)) ∙ get_or-set_other l j i v d (omega arith)

-- ---- they are the same run

pub sets_at : (vs l : List ℕ) (at : ℕ) → at + length vs ≤ length l → take (length vs) (drop at (sets l at vs)) ≡ vs
sets_at vs l at h =
    ap (λ (x : List ℕ). take (length vs) (drop at x)) (sets-eq vs l at h ∙ append_assoc (take at l) vs (drop (at + length vs) l))
    ∙ ap (take (length vs)) (drop_at (take at l) (vs ++ drop (at + length vs) l) at (length-take-le at l (omega arith)))
    ∙ take_at vs (drop (at + length vs) l) (length vs) refl

pub sets_same : (n : ℕ) (l : List ℕ) (at : ℕ) → at + n ≤ length l → sets l at (take n (drop at l)) ≡ l
sets_same zero l at h = refl
sets_same (suc n) l at h =
    ap (λ (x : List ℕ). sets l at (take (suc n) x)) (drop-cons l at 0 (omega arith))
    ∙ ap (λ (x : List ℕ). sets x (suc at) (take n (drop (suc at) l))) (set-get_or l at 0)
    ∙ sets_same n l (suc at) (omega arith)

pub length_part : (n : ℕ) (l : List ℕ) (at : ℕ) → at + n ≤ length l → length (take n (drop at l)) ≡ n
length_part n l at h = length-take-le n (drop at l) (rw length-drop (omega arith))
