-- The order of the places: of places whose f is no NaN, none is before itself, of two different ones one is before the other, and not to be before goes on
-- from place to place. And the better of two words: it is one of the two, and neither is before it. Assumes nothing.
use Prim.Native.Nat.{ℕ, ◌≤◌, ◌<◌, max}
use native.Mathlib.Omega.{arith}
use mathlib.Core.Path.{◌≡◌, refl, sym, ap, ◌∙◌}
use mathlib.Core.Bool.{Bool, true, false, not, ◌&&◌, ◌||◌, cond}
use mathlib.Core.Logic.{◌⊎◌, inl, inr, ⊎_elim}
use borrow.Author.Tests.{ltb-true, ltb-false, leb-false, le-ltb, le-leb, lt-leb}
use lib.Dec.{T, leb, ltb}
use lib.Ieee.{Float, is_nan, lt, eq}
use Rattle.float.proofs.Rank.{Like, ranks, is_not_before, is_equal, equal, not_before as not-lt, before as is_lt}
use Rattle.float.proofs.Order.{lt_irreflexive}
use Rattle.float.proofs.Tests.{untrue, and_true, or_true}
use Rattle.queue.specs.Queue.{before, lone_of, better}

-- ---- before

or_false : (a b : Bool) → (a || b) ≡ false → (a ≡ false) × (b ≡ false)
or_false true b h = untrue (sym h)
or_false false b h = (refl, h)

and_no : (a : Bool) → (a && false) ≡ false
and_no true = refl
and_no false = refl

and_rest : (a b : Bool) → (a && b) ≡ false → a ≡ true → b ≡ false
and_rest a b h e = sym (ap (λ x. x && b) e) ∙ h

and_unless : (a b : Bool) → (a ≡ true → b ≡ false) → (a && b) ≡ false
and_unless true b h = h refl
and_unless false b h = refl

pub before_irreflexive : (f : ℕ → Float) (i : ℕ) → before f i i ≡ false
unfolding before
before_irreflexive f i = rw (lt_irreflexive (f i), le-ltb i i (omega arith)) (and_no (eq (f i) (f i)))

-- where the floats compare as numbers a and b do, the places compare as the pairs of a, i and b, j
module _ (f : ℕ → Float) (i j : ℕ) {a b : ℕ} (r : Like (f i) (f j) a b) where
  tells : before f i j ≡ false → (b ≤ a) × (a ≡ b → j ≤ i)
  unfolding before
  tells h =
      let z = or_false (lt (f i) (f j)) (eq (f i) (f j) && ltb i j) h in
      (not-lt r z.0, λ e. ltb-false i j (and_rest (eq (f i) (f j)) (ltb i j) z.1 (is_equal r e)))

  makes : b ≤ a → (a ≡ b → j ≤ i) → before f i j ≡ false
  unfolding before
  makes l h = rw (is_not_before r l) (and_unless (eq (f i) (f j)) (ltb i j) (λ e. le-ltb i j (h (equal r e))))

  tells_true : before f i j ≡ true → (a < b) ⊎ ((a ≡ b) × (i < j))
  unfolding before
  tells_true h =
      ⊎_elim
      (λ e. inl (is_lt r e))
      (λ e. let z = and_true (eq (f i) (f j)) (ltb i j) e in inr (equal r z.0, ltb-true i j z.1))
      (or_true (lt (f i) (f j)) (eq (f i) (f j) && ltb i j) h)

module _ (f : ℕ → Float) (i j : ℕ) (ni : T (not (is_nan (f i)))) (nj : T (not (is_nan (f j)))) where
  pub before_asymmetric : before f i j ≡ true → before f j i ≡ false
  before_asymmetric h =
      let r = ranks (f i) (f j) (f j) ni nj nj in
      ⊎_elim (λ l. makes f j i r.yx (omega arith) (λ e. omega arith)) (λ e. makes f j i r.yx (omega arith) (λ _. omega arith))
      (tells_true f i j r.xy h)

  pub neither_before : before f i j ≡ false → before f j i ≡ false → i ≡ j
  neither_before h k =
      let r = ranks (f i) (f j) (f j) ni nj nj in
      let p = tells f i j r.xy h in
      let q = tells f j i r.yx k in
      let e : r.a ≡ r.b = omega arith in
      omega (arith, p.1 e, q.1 (sym e))

  pub not_before_transitive : (k : ℕ) → T (not (is_nan (f k))) → before f i j ≡ false → before f j k ≡ false → before f i k ≡ false
  not_before_transitive k nk h g =
      let r = ranks (f i) (f j) (f k) ni nj nk in
      let p = tells f i j r.xy h in
      let q = tells f j k r.yz g in
      makes f i k r.xz (omega arith)
      (λ e. let s : r.a ≡ r.b = omega arith in let u : r.b ≡ r.c = omega arith in omega (arith, p.1 s, q.1 u))

-- ---- better

module _ (f : ℕ → Float) (n a b : ℕ) where
  -- one of the two
  pub better_cases : (P : ℕ → Type 0) → P a → P b → P (better f n a b)
  unfolding better
  better_cases P x y = go (leb n a) (leb n b) (before f a b)
    where
      go : (s t u : Bool) → P (cond s b (cond t a (cond u a b)))
      go true t u = y
      go false true u = x
      go false false true = x
      go false false false = y

  -- where one of them at most is a place, it is that one
  pub better_lone : n ≤ max a b → better f n a b ≡ lone_of n a b
  unfolding better lone_of
  better_lone h = go (leb n a) refl
    where
      go : (s : Bool) → leb n a ≡ s → cond s b (cond (leb n b) a (cond (before f a b) a b)) ≡ cond s b a
      go true e = refl
      go false e = rw (le-leb n b (omega (arith, h, leb-false n a e)))

  -- it is a place if one of them is
  pub better_place_left : a < n → better f n a b < n
  unfolding better
  better_place_left l = rw (lt-leb n a l) (go (leb n b) refl (before f a b))
    where
      go : (t : Bool) → leb n b ≡ t → (u : Bool) → cond t a (cond u a b) < n
      go true e u = l
      go false e true = l
      go false e false = leb-false n b e

  pub better_place_right : b < n → better f n a b < n
  unfolding better
  better_place_right l = rw (lt-leb n b l) (go (leb n a) refl (before f a b))
    where
      go : (s : Bool) → leb n a ≡ s → (u : Bool) → cond s b (cond u a b) < n
      go true e u = l
      go false e true = leb-false n a e
      go false e false = l

  -- neither is before it
  pub better_left : a < n → before f a (better f n a b) ≡ false
  unfolding better
  better_left l = rw (lt-leb n a l) (go (leb n b) (before f a b) refl)
    where
      go : (t u : Bool) → before f a b ≡ u → before f a (cond t a (cond u a b)) ≡ false
      go true u e = before_irreflexive f a
      go false true e = before_irreflexive f a
      go false false e = e

  pub better_right : (a < n → T (not (is_nan (f a)))) → b < n → T (not (is_nan (f b))) → before f b (better f n a b) ≡ false
  unfolding better
  better_right na l nb = rw (lt-leb n b l) (go (leb n a) refl (before f a b) refl)
    where
      go : (s : Bool) → leb n a ≡ s → (u : Bool) → before f a b ≡ u → before f b (cond s b (cond u a b)) ≡ false
      go true e u g = before_irreflexive f b
      go false e true g = before_asymmetric f a b (na (leb-false n a e)) nb g
      go false e false g = before_irreflexive f b

  -- it looks at the f of places only
  pub better_same : (g : ℕ → Float) → (a < n → f a ≡ g a) → (b < n → f b ≡ g b) → better f n a b ≡ better g n a b
  unfolding better before
  better_same g p q = go (leb n a) refl (leb n b) refl
    where
      go : (s : Bool) → leb n a ≡ s → (t : Bool) → leb n b ≡ t
          → cond s b (cond t a (cond (lt (f a) (f b) || (eq (f a) (f b) && ltb a b)) a b))
          ≡ cond s b (cond t a (cond (lt (g a) (g b) || (eq (g a) (g b) && ltb a b)) a b))
      go true e t h = refl
      go false e true h = refl
      go false e false h = rw (p (leb-false n a e), q (leb-false n b h))
