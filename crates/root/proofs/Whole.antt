-- Roots in whole numbers: the cut root, the nearest one, and that there is one nearest only. Assumes nothing.
use Prim.Native.Nat.{ℕ, zero, suc, ◌+◌, ◌-◌, ◌*◌, ◌/◌, ◌%◌, ◌^◌, ◌≤◌, ◌<◌}
use native.Mathlib.Nat.{pow-suc, div-lt_iff_lt-mul, le_antisymm}
use native.Mathlib.Omega.{arith}
use mathlib.Core.Path.{◌≡◌, refl, subst}
use mathlib.Core.Bool.{Bool, true, false, not, cond}
use mathlib.Core.Logic.{◌⊎◌, inl, inr}
use lib.Dec.{T, leb, leb→le, nleb→lt}
use Rattle.root.specs.Root.{whole_root, nearest_root}
use Rattle.root.specs.Scale.{Close}

pub at_most : {i j : ℕ} → (j < i → ⊥) → i ≤ j
at_most h = omega arith

-- ---- the cut root

pub record Cut (n r : ℕ) : Type 0 where
  pub low : r * r ≤ n
  pub high : n < (r + 1) * (r + 1)

digit : (a n : ℕ) (b : Bool) → (T b → (2 * a + 1) * (2 * a + 1) ≤ n) → (T (not b) → n < (2 * a + 1) * (2 * a + 1)) → Cut (n / 4) a
    → Cut n (cond b (2 * a + 1) (2 * a))
digit a n true h l c =
    let k : (2 * a + 1) * (2 * a + 1) ≤ n = h tt in
    let u : n / 4 < (a + 1) * (a + 1) = c.high in
    record { low = k; high = omega arith }
digit a n false h l c =
    let k : n < (2 * a + 1) * (2 * a + 1) = l tt in
    let u : a * a ≤ n / 4 = c.low in
    record { low = omega arith; high = k }

pub whole_root_lem : (d n : ℕ) → n < 4 ^ d → Cut n (whole_root d n)
unfolding whole_root
whole_root_lem zero n h = let e : n < 1 = h in record { low = omega arith; high = omega arith }
whole_root_lem (suc d) n h =
    let a = whole_root d (n / 4) in
    let f : n / 4 < 4 ^ d = (div-lt_iff_lt-mul {k = 4} (omega arith)).1 (subst (λ (v : ℕ). n < v) (pow-suc 4 d) h) in
    digit a n (leb ((2 * a + 1) * (2 * a + 1)) n) (leb→le _ n) (nleb→lt _ n) (whole_root_lem d (n / 4) f)

-- ---- the nearest whole number

parity : (w : ℕ) → (w ≡ 2 * ((w + 1) / 2)) ⊎ (w + 1 ≡ 2 * ((w + 1) / 2))
parity w = go ((w + 1) % 2) (omega arith) refl
  where
    go : (r : ℕ) → r < 2 → (w + 1) % 2 ≡ r → (w ≡ 2 * ((w + 1) / 2)) ⊎ (w + 1 ≡ 2 * ((w + 1) / 2))
    go zero l e = inr (omega arith)
    go (suc zero) l e = inl (omega arith)
    go (suc (suc r)) l e = absurd (omega arith)

-- the root of 4 n is twice that of n, so half of it, and a half more, is cut to the nearest
half : (n w : ℕ) → 0 < n → Cut (4 * n) w → Close n ((w + 1) / 2)
half n w p c = go ((w + 1) / 2) (parity w)
  where
    even : (q : ℕ) → (2 * q) * (2 * q) ≤ 4 * n → 4 * n < (2 * q + 1) * (2 * q + 1) → Close n q
    even zero l h = absurd (omega arith)
    even (suc q) l h = record { low = omega arith; high = omega arith }

    go : (q : ℕ) → (w ≡ 2 * q) ⊎ (w + 1 ≡ 2 * q) → Close n q
    go q (inl e) = even q (subst (λ (v : ℕ). v * v ≤ 4 * n) e c.low) (subst (λ (v : ℕ). 4 * n < (v + 1) * (v + 1)) e c.high)
    go q (inr e) =
        let l : (w + 1) * (w + 1) ≤ 4 * n + 2 * w + 1 = omega (arith, c.low) in
        let k : (2 * q) * (2 * q) ≤ 4 * n + 2 * w + 1 = subst (λ (v : ℕ). v * v ≤ 4 * n + 2 * w + 1) e l in
        let h : 4 * n < (2 * q) * (2 * q) = subst (λ (v : ℕ). 4 * n < v * v) e c.high in
        record { low = omega (arith, k); high = omega arith }

-- of two numbers the larger is too large, or the smaller too small
apart : (n q d : ℕ) → n ≤ q * q + q → (q + 1 + d) * (q + 1 + d) < n + (q + 1 + d) → ⊥
apart n q d h l = omega arith

no_less : (n q p : ℕ) → Close n q → Close n p → q < p → ⊥
no_less n q p a b l =
    let e : p ≡ q + 1 + (p - (q + 1)) = omega arith in
    apart n q (p - (q + 1)) a.high (subst (λ (v : ℕ). v * v < n + v) e b.low)

pub close_unique : {n q p : ℕ} → Close n q → Close n p → q ≡ p
close_unique {n} {q} {p} a b = le_antisymm (at_most (no_less n p q b a)) (at_most (no_less n q p a b))

pub nearest_root_lem : (n : ℕ) → 0 < n → n < 2 ^ 48 → Close n (nearest_root n)
unfolding nearest_root
nearest_root_lem n p h = half n (whole_root 25 (4 * n)) p (whole_root_lem 25 (4 * n) (omega arith))

-- whoever is as close as the nearest whole number is that number
pub is_nearest_root : {n q : ℕ} → 0 < n → n < 2 ^ 48 → Close n q → q ≡ nearest_root n
is_nearest_root {n} p h c = close_unique c (nearest_root_lem n p h)
