-- What can be counted on of `every`, `some`, `first` and `table`: each is decided by its values, and tells them. Assumes nothing.
use Prim.Native.Nat.{ℕ, zero, suc, ◌+◌, ◌≤◌, ◌<◌}
use native.Mathlib.Omega.{arith}
use native.Mathlib.Decide.{dec_lt}
use mathlib.Core.Path.{◌≡◌, refl, sym, ◌∙◌, subst}
use mathlib.Core.Bool.{Bool, true, false, not, ◌&&◌, ◌||◌, cond}
use mathlib.Core.Logic.{◌⊎◌, inl, inr, ⊎_elim}
use mathlib.Core.List.{[], ◌∷◌, ◌++◌}
use borrow.Author.Tests.{ltb-true, ltb-false, lt-ltb, le-ltb}
use lib.Dec.{T, ltb}
use lib.ListN.{length, get_or, length-append, get_or-append}
use lib.Seq.{get_or-append_seam}
use Rattle.std.specs.Prelude.{Some, None}
use Rattle.std.proofs.lemmas.Option.{cond_some, none-some}
use Rattle.counts.specs.Counts.{every, some, first, below, table}

-- ---- the numbers below suc n are those below n, and n

last : (k n : ℕ) → k < suc n → (k < n) ⊎ (k ≡ n)
last k n h = go (dec_lt k n)
  where
    go : Dec (k < n) → (k < n) ⊎ (k ≡ n)
    go (yes l) = inl l
    go (no l) = inr (omega arith)

up : {k n : ℕ} → k < n → k < suc n
up h = omega arith

here : (n : ℕ) → n < suc n
here n = omega arith

and_false : (a : Bool) → (a && false) ≡ false
and_false true = refl
and_false false = refl

or_true : (a : Bool) → (a || true) ≡ true
or_true true = refl
or_true false = refl

-- ---- every

pub every_true : (n : ℕ) (f : ℕ → Bool) → ((k : ℕ) → k < n → f k ≡ true) → every n f ≡ true
unfolding every
every_true zero f h = refl
every_true (suc n) f h = rw (every_true n f (λ k l. h k (up l)), h n (here n))

pub every_false : (n : ℕ) (f : ℕ → Bool) (k : ℕ) → k < n → f k ≡ false → every n f ≡ false
unfolding every
every_false zero f k l e = absurd (omega arith)
every_false (suc n) f k l e = ⊎_elim (λ b. rw (every_false n f k b e)) (λ b. rw (← b, e) (and_false (every k f))) (last k n l)

pub every_at : (n : ℕ) (f : ℕ → Bool) → every n f ≡ true → (k : ℕ) → k < n → f k ≡ true
every_at n f h k l = go (f k) refl
  where
    go : (b : Bool) → f k ≡ b → f k ≡ true
    go true e = e
    go false e = absurd (subst (λ (b : Bool). T (not b)) (sym (every_false n f k l e) ∙ h) tt)

pub every_same : (n : ℕ) (f g : ℕ → Bool) → ((k : ℕ) → k < n → f k ≡ g k) → every n f ≡ every n g
unfolding every
every_same zero f g h = refl
every_same (suc n) f g h = rw (every_same n f g (λ k l. h k (up l)), h n (here n))

-- ---- some

pub some_false : (n : ℕ) (f : ℕ → Bool) → ((k : ℕ) → k < n → f k ≡ false) → some n f ≡ false
unfolding some
some_false zero f h = refl
some_false (suc n) f h = rw (some_false n f (λ k l. h k (up l)), h n (here n))

pub some_true : (n : ℕ) (f : ℕ → Bool) (k : ℕ) → k < n → f k ≡ true → some n f ≡ true
unfolding some
some_true zero f k l e = absurd (omega arith)
some_true (suc n) f k l e = ⊎_elim (λ b. rw (some_true n f k b e)) (λ b. rw (← b, e) (or_true (some k f))) (last k n l)

pub some_at : (n : ℕ) (f : ℕ → Bool) → some n f ≡ true → (k : ℕ) × (k < n) × (f k ≡ true)
unfolding some
some_at zero f h = absurd (subst (λ (b : Bool). T (not b)) h tt)
some_at (suc n) f h = go (some n f) refl (f n) refl (some_at n f)
  where
    go : (a : Bool) → some n f ≡ a → (b : Bool) → f n ≡ b → (some n f ≡ true → (k : ℕ) × (k < n) × (f k ≡ true))
        → (k : ℕ) × (k < suc n) × (f k ≡ true)
    go true p b q r = ((r p).0, up (r p).1, (r p).2)
    go false p true q r = (n, here n, q)
    go false p false q r = absurd (subst (λ (b : Bool). T (not b)) (sym (none p q) ∙ h) tt)
      where
        none : some n f ≡ false → f n ≡ false → (some n f || f n) ≡ false
        none p q = rw (p, q)

pub some_same : (n : ℕ) (f g : ℕ → Bool) → ((k : ℕ) → k < n → f k ≡ g k) → some n f ≡ some n g
unfolding some
some_same zero f g h = refl
some_same (suc n) f g h = rw (some_same n f g (λ k l. h k (up l)), h n (here n))

-- ---- first

-- m is the first: nothing before it is, and it is, unless it is the end
pub first_is : (n : ℕ) (f : ℕ → Bool) (m : ℕ) → m ≤ n → ((k : ℕ) → k < m → f k ≡ false) → (m < n → f m ≡ true) → first n f ≡ m
unfolding first
first_is zero f m l b t = omega arith
first_is (suc n) f m l b t = go (first_is n f) (dec_lt m n)
  where
    full : n ≤ m → (first n f ≡ n) → Dec (m < suc n) → cond (ltb (first n f) n) (first n f) (cond (f n) n (suc n)) ≡ m
    full g e (yes h) = let q : m ≡ n = omega arith in rw (e, le-ltb n n (omega arith), subst (λ (v : ℕ). f v ≡ true) q (t h)) (sym q)
    full g e (no h) = let q : m ≡ suc n = omega arith in rw (e, le-ltb n n (omega arith), b n (omega arith)) (sym q)

    go : ((m : ℕ) → m ≤ n → ((k : ℕ) → k < m → f k ≡ false) → (m < n → f m ≡ true) → first n f ≡ m)
        → Dec (m < n) → cond (ltb (first n f) n) (first n f) (cond (f n) n (suc n)) ≡ m
    go r (yes h) = rw (r m (omega arith) b (λ _. t (up h)), lt-ltb m n h)
    go r (no h) = full (omega arith) (r n (omega arith) (λ k g. b k (omega arith)) (λ g. absurd (omega arith))) (dec_lt m (suc n))

pub first_le : (n : ℕ) (f : ℕ → Bool) → first n f ≤ n
unfolding first
first_le zero f = omega arith
first_le (suc n) f = go (first_le n f) (ltb (first n f) n) (f n)
  where
    go : first n f ≤ n → (a b : Bool) → cond a (first n f) (cond b n (suc n)) ≤ suc n
    go l true b = omega arith
    go l false true = omega arith
    go l false false = omega arith

-- nothing before the first is one, and the first is, unless it is the end
pub first_tells : (n : ℕ) (f : ℕ → Bool) → ((k : ℕ) → k < first n f → f k ≡ false) × (first n f < n → f (first n f) ≡ true)
unfolding first
first_tells zero f = ((λ k l. absurd (omega arith)), λ l. absurd (omega arith))
first_tells (suc n) f = go (first_tells n f) (first_le n f) (ltb (first n f) n) refl (f n) refl
  where
    Told : ℕ → Type 0
    Told m = ((k : ℕ) → k < m → f k ≡ false) × (m < suc n → f m ≡ true)

    go : ((k : ℕ) → k < first n f → f k ≡ false) × (first n f < n → f (first n f) ≡ true) → first n f ≤ n
        → (a : Bool) → ltb (first n f) n ≡ a → (b : Bool) → f n ≡ b → Told (cond a (first n f) (cond b n (suc n)))
    go r l true p b q = (r.0, λ _. r.1 (ltb-true _ _ p))
    go r l false p true q =
        let e : first n f ≡ n = omega (arith, ltb-false (first n f) n p) in (subst (λ (v : ℕ). (k : ℕ) → k < v → f k ≡ false) e r.0, λ _. q)
    go r l false p false q =
        let e : first n f ≡ n = omega (arith, ltb-false (first n f) n p) in (
          (λ k h. ⊎_elim (λ g. r.0 k (subst (λ (v : ℕ). k < v) (sym e) g)) (λ g. subst (λ (v : ℕ). f v ≡ false) (sym g) q) (last k n h)),
          λ h. absurd (omega arith),
        )

pub first_before : (n : ℕ) (f : ℕ → Bool) (k : ℕ) → k < first n f → f k ≡ false
first_before n f = (first_tells n f).0

pub first_at : (n : ℕ) (f : ℕ → Bool) → first n f < n → f (first n f) ≡ true
first_at n f = (first_tells n f).1

-- where none is among them up to m, the first is behind m
pub first_behind : (n : ℕ) (f : ℕ → Bool) (m : ℕ) → m < n → ((k : ℕ) → k < m + 1 → f k ≡ false) → m < first n f
first_behind n f m l none = go (dec_lt m (first n f))
  where
    go : Dec (m < first n f) → m < first n f
    go (yes b) = b
    go (no b) = let z : ◌≡◌ {A = Bool} true false = sym (first_at n f (omega arith)) ∙ none (first n f) (omega arith) in absurd (subst T z tt)

pub first_same : (n : ℕ) (f g : ℕ → Bool) → ((k : ℕ) → k < n → f k ≡ g k) → first n f ≡ first n g
unfolding first
first_same zero f g h = refl
first_same (suc n) f g h = rw (first_same n f g (λ k l. h k (up l)), h n (here n))

-- there is a first just where there is some
pub first_below : (n : ℕ) (f : ℕ → Bool) (k : ℕ) → k < n → f k ≡ true → first n f ≤ k
first_below n f k l e = go (dec_lt k (first n f))
  where
    go : Dec (k < first n f) → first n f ≤ k
    go (yes h) = absurd (subst (λ (b : Bool). T (not b)) (sym (first_before n f k h) ∙ e) tt)
    go (no h) = omega arith

-- ---- the one found, or none

pub below_is : (n k : ℕ) → k < n → below n k ≡ Some k
below_is n k l = rw (lt-ltb k n l)

pub below_ends : (n k : ℕ) → n ≤ k → below n k ≡ None
below_ends n k l = rw (le-ltb k n l)

pub below_some : (n k : ℕ) {x : ℕ} → below n k ≡ Some x → (k ≡ x) × (x < n)
below_some n k {x} e =
    let t = cond_some (ltb k n) k x e in
    (t.1, subst (λ (v : ℕ). v < n) t.1 (ltb-true k n t.0))

pub below_none : (n k : ℕ) → below n k ≡ None → n ≤ k
below_none n k e = go (ltb k n) refl e
  where
    go : (b : Bool) → ltb k n ≡ b → cond b (Some k) None ≡ None → n ≤ k
    go true t e = absurd (none-some k (sym e))
    go false t e = ltb-false k n t

-- ---- table

pub length_table {ℓ} : {A : Type ℓ} (n : ℕ) (f : ℕ → A) → length (table n f) ≡ n
unfolding table
length_table zero f = refl
length_table (suc n) f = rw (length-append, length_table n f) (omega arith)

pub get_or_table {ℓ} : {A : Type ℓ} (n : ℕ) (f : ℕ → A) (k : ℕ) (d : A) → k < n → get_or (table n f) k d ≡ f k
unfolding table
get_or_table zero f k d l = absurd (omega arith)
get_or_table (suc n) f k d l = go (get_or_table n f k d) (last k n l)
  where
    go : (k < n → get_or (table n f) k d ≡ f k) → (k < n) ⊎ (k ≡ n) → get_or (table n f ++ (f n ∷ [])) k d ≡ f k
    go r (inl h) = get_or-append (table n f) (f n ∷ []) d k (subst (λ (v : ℕ). k < v) (sym (length_table n f)) h) ∙ r h
    go r (inr e) = rw e (subst (λ (v : ℕ). get_or (table n f ++ (f n ∷ [])) v d ≡ f n) (length_table n f) (get_or-append_seam (table n f) (f n) [] d))
