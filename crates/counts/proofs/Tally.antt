-- What can be counted on of `tally`: none gives 0 and all give n, and only they do; it is decided by the values; and where one value changes, it changes
-- by 1. Assumes nothing.
use Prim.Native.Nat.{ℕ, zero, suc, ◌+◌, ◌≤◌, ◌<◌}
use native.Mathlib.Omega.{arith}
use native.Mathlib.Decide.{dec_lt}
use mathlib.Core.Path.{◌≡◌, refl, sym, subst}
use mathlib.Core.Bool.{Bool, true, false, cond}
use mathlib.Core.Logic.{◌↔◌}
use Rattle.counts.specs.Counts.{every, tally}
use Rattle.counts.proofs.Laws.{every_true, every_at}

up : {k n : ℕ} → k < n → k < suc n
up h = omega arith

here : (n : ℕ) → n < suc n
here n = omega arith

-- ---- none, and all

pub tally_none : (n : ℕ) (f : ℕ → Bool) → ((k : ℕ) → k < n → f k ≡ false) → tally n f ≡ 0
unfolding tally
tally_none zero f h = refl
tally_none (suc n) f h = rw (h n (here n)) (tally_none n f (λ k l. h k (up l)))

pub tally_all : (n : ℕ) (f : ℕ → Bool) → ((k : ℕ) → k < n → f k ≡ true) → tally n f ≡ n
unfolding tally
tally_all zero f h = refl
tally_all (suc n) f h = rw (h n (here n), tally_all n f (λ k l. h k (up l)))

pub tally_le : (n : ℕ) (f : ℕ → Bool) → tally n f ≤ n
unfolding tally
tally_le zero f = omega arith
tally_le (suc n) f = go (tally_le n f) (f n)
  where
    go : tally n f ≤ n → (b : Bool) → cond b (suc (tally n f)) (tally n f) ≤ suc n
    go l true = omega arith
    go l false = omega arith

-- ---- it is decided by the values

pub tally_same : (n : ℕ) (f g : ℕ → Bool) → ((k : ℕ) → k < n → f k ≡ g k) → tally n f ≡ tally n g
unfolding tally
tally_same zero f g h = refl
tally_same (suc n) f g h = rw (tally_same n f g (λ k l. h k (up l)), h n (here n))

-- ---- one value changes

-- where f and g agree but at i, and g has i, g has one more
pub tally_more : (n : ℕ) (f g : ℕ → Bool) (i : ℕ) → i < n → f i ≡ false → g i ≡ true → ((k : ℕ) → k < n → (k ≡ i → ⊥) → g k ≡ f k)
    → tally n g ≡ tally n f + 1
unfolding tally
tally_more zero f g i l p q h = absurd (omega arith)
tally_more (suc n) f g i l p q h = go (dec_lt i n) (tally_more n f g i) (f n) refl
  where
    go : Dec (i < n)
        → (i < n → f i ≡ false → g i ≡ true → ((k : ℕ) → k < n → (k ≡ i → ⊥) → g k ≡ f k) → tally n g ≡ tally n f + 1)
        → (b : Bool) → f n ≡ b
        → cond (g n) (suc (tally n g)) (tally n g) ≡ cond (f n) (suc (tally n f)) (tally n f) + 1
    go (no e) r b x =
        let d : i ≡ n = omega arith in
        rw (subst (λ (v : ℕ). g v ≡ true) d q, subst (λ (v : ℕ). f v ≡ false) d p, tally_same n g f (λ k s. h k (up s) (λ c. omega arith))) (omega arith)
    go (yes e) r true x =
        let s : tally n g ≡ tally n f + 1 = r e p q (λ k m. h k (up m)) in rw (h n (here n) (λ c. omega arith), x) (omega arith)
    go (yes e) r false x = rw (h n (here n) (λ c. omega arith), x) (r e p q (λ k m. h k (up m)))

-- where they agree but at i, and f has i, g has one less
pub tally_less : (n : ℕ) (f g : ℕ → Bool) (i : ℕ) → i < n → f i ≡ true → g i ≡ false → ((k : ℕ) → k < n → (k ≡ i → ⊥) → g k ≡ f k)
    → tally n f ≡ tally n g + 1
tally_less n f g i l p q h = tally_more n g f i l q p (λ k m d. sym (h k m d))

-- ---- only none gives 0, and only all give n

pub tally_full : (n : ℕ) (f : ℕ → Bool) → n ≤ tally n f → (k : ℕ) → k < n → f k ≡ true
unfolding tally
tally_full zero f e k l = absurd (omega arith)
tally_full (suc n) f e k l = go (f n) refl (dec_lt k n) (tally_full n f)
  where
    go : (b : Bool) → f n ≡ b → Dec (k < n) → (n ≤ tally n f → (k : ℕ) → k < n → f k ≡ true) → f k ≡ true
    go true x (no d) r = let v : k ≡ n = omega arith in rw v x
    go true x (yes d) r = let s : suc n ≤ suc (tally n f) = rw x at e in r (omega arith) k d
    go false x d r = let s : suc n ≤ tally n f = rw x at e in absurd (omega (arith, tally_le n f))

pub tally_empty : (n : ℕ) (f : ℕ → Bool) → tally n f ≡ 0 → (k : ℕ) → k < n → f k ≡ false
unfolding tally
tally_empty zero f e k l = absurd (omega arith)
tally_empty (suc n) f e k l = go (f n) refl (dec_lt k n) (tally_empty n f)
  where
    go : (b : Bool) → f n ≡ b → Dec (k < n) → (tally n f ≡ 0 → (k : ℕ) → k < n → f k ≡ false) → f k ≡ false
    go true x d r = let s : suc (tally n f) ≡ 0 = rw x at e in absurd (omega arith)
    go false x (no d) r = let v : k ≡ n = omega arith in rw v x
    go false x (yes d) r = r (rw x at e) k d

-- every number has it just where n of them have it
pub tally_every : (n : ℕ) (f : ℕ → Bool) → every n f ≡ true ↔ (n ≤ tally n f)
tally_every n f = (
  (λ e. let s : tally n f ≡ n = tally_all n f (every_at n f e) in omega arith),
  (λ l. every_true n f (tally_full n f l)),
)
