-- The midpoints of q * 2 ^ k and any other number of at most 24 digits, squared, lie on that number's side of N * 4 ^ k, if q is nearest to N's root and
-- has 24 digits. Whole numbers only. Assumes nothing.
use Prim.Native.Nat.{ℕ, zero, suc, ◌+◌, ◌-◌, ◌*◌, ◌^◌, ◌≤◌, ◌<◌}
use native.Mathlib.Nat.{le_trans, lt_of_lt_of_le, lt_of_le_of_lt, lt_of_not-le, le_of_lt, lt_irrefl, mul-lt-mul_of_pos_right, mul-le-mul_right}
use native.Mathlib.Nat.{mul-le-mul, mul-pos, mul_assoc, lt_of_mul-lt-mul_right}
use native.Mathlib.Decide.{dec_le}
use native.Mathlib.Omega.{arith}
use mathlib.Core.Path.{◌≡◌, sym, ap, ◌∙◌, subst}
use mathlib.Core.Logic.{◌⊎◌, inl, inr, ⊎_elim}
use lib.Pow.{pow-add, pow_pos, pow_mono}
use Rattle.root.specs.Scale.{Close}
use Rattle.root.proofs.Whole.{at_most}
use Rattle.root.proofs.Digits.{four_pow}

-- ---- how many digits the nearest root has

less : (q d : ℕ) → q * q + q < (q + 1 + d) * (q + 1 + d)
less q d = omega arith

more : (b d : ℕ) → (b + 1) * (b + 1) + (b + 1 + d) ≤ (b + 1 + d) * (b + 1 + d) + (b + 1)
more b d = omega arith

pub root_reaches : (n q : ℕ) → Close n q → 2 ^ 46 ≤ n → 2 ^ 23 ≤ q
root_reaches n q c h = at_most short
  where
    short : q < 2 ^ 23 → ⊥
    short l =
        let e : q + 1 + (2 ^ 23 - (q + 1)) ≡ 2 ^ 23 = omega arith in
        let k : q * q + q < 2 ^ 23 * 2 ^ 23 = subst (λ (v : ℕ). q * q + q < v * v) e (less q (2 ^ 23 - (q + 1))) in
        let u : n ≤ q * q + q = c.high in
        omega arith

pub root_ends : (n q : ℕ) → q * q < n + q → n + 2 ^ 24 ≤ 2 ^ 48 → q < 2 ^ 24
root_ends n q c h = lt_of_not-le long
  where
    long : 2 ^ 24 ≤ q → ⊥
    long l =
        let e : 2 ^ 24 - 1 + 1 + (q - 2 ^ 24) ≡ q = omega arith in
        let k : 2 ^ 24 * 2 ^ 24 + q ≤ q * q + 2 ^ 24 = subst (λ (v : ℕ). 2 ^ 24 * 2 ^ 24 + v ≤ v * v + 2 ^ 24) e (more (2 ^ 24 - 1) (q - 2 ^ 24)) in
        omega arith

-- ---- a number of at most 24 digits is a multiple of 2 ^ k from 2 ^ (23 + k) on

four_square : (k : ℕ) → 4 ^ k ≡ 2 ^ k * 2 ^ k
four_square k = four_pow k ∙ ap (λ (v : ℕ). 2 ^ v) (twice k) ∙ pow-add 2 k k
  where
    twice : (k : ℕ) → 2 * k ≡ k + k
    twice k = omega arith

-- where its digits end below those of q, the number does
ends_below : (m i k : ℕ) → m < 2 ^ 24 → i < k → m * 2 ^ i < 2 ^ 23 * 2 ^ k
ends_below m i k h l =
    lt_of_lt_of_le (mul-lt-mul_of_pos_right h (pow_pos i))
    (subst (λ (v : ℕ). v ≤ 2 ^ 23 * 2 ^ k) (e i) (grow (2 ^ (i + 1)) (2 ^ k) (pow_mono (one_more i k l))))
  where
    one_more : (i k : ℕ) → i < k → i + 1 ≤ k
    one_more i k l = omega arith

    grow : (a b : ℕ) → a ≤ b → 2 ^ 23 * a ≤ 2 ^ 23 * b
    grow a b h = omega arith

    doubled : (a : ℕ) → 2 ^ 23 * (a * 2) ≡ 2 ^ 24 * a
    doubled a = omega arith

    e : (i : ℕ) → 2 ^ 23 * 2 ^ (i + 1) ≡ 2 ^ 24 * 2 ^ i
    e i = ap (λ (v : ℕ). 2 ^ 23 * v) (pow-add 2 i 1) ∙ doubled (2 ^ i)

-- a number m * 2 ^ i is c * 2 ^ k, or it is below 2 ^ 23 * 2 ^ k
multiple : (m i k : ℕ) → m < 2 ^ 24 → ((c : ℕ) × (m * 2 ^ i ≡ c * 2 ^ k)) ⊎ (m * 2 ^ i < 2 ^ 23 * 2 ^ k)
multiple m i k h = go (dec_le k i)
  where
    back : (i k : ℕ) → k ≤ i → i ≡ i - k + k
    back i k l = omega arith

    go : Dec (k ≤ i) → ((c : ℕ) × (m * 2 ^ i ≡ c * 2 ^ k)) ⊎ (m * 2 ^ i < 2 ^ 23 * 2 ^ k)
    go (yes l) =
        inl (
          m * 2 ^ (i - k),
          ap (λ (v : ℕ). m * 2 ^ v) (back i k l) ∙ ap (λ (v : ℕ). m * v) (pow-add 2 (i - k) k)
              ∙ sym (mul_assoc m (2 ^ (i - k)) (2 ^ k)),
        )
    go (no l) = inr (ends_below m i k h (lt_of_not-le l))

-- ---- the two sides. P stands for 2 ^ k

module _ (n q P : ℕ) (pos : 0 < P) (close : Close n q) where
  -- a multiple of P above q P
  above_by : (d : ℕ) → 4 * (n * (P * P)) < ((q + 1 + d) * P + q * P) * ((q + 1 + d) * P + q * P)
  above_by d =
      subst (λ (v : ℕ). 4 * (n * (P * P)) < v) (square (q + 1 + d) q P)
      (subst (λ (v : ℕ). v < (q + 1 + d + q) * (q + 1 + d + q) * (P * P)) (mul_assoc 4 n (P * P))
      (mul-lt-mul_of_pos_right (wide d close.high) (mul-pos pos pos)))
    where
      wide : (d : ℕ) → n ≤ q * q + q → 4 * n < (q + 1 + d + q) * (q + 1 + d + q)
      wide d h = omega arith

      square : (a b p : ℕ) → (a + b) * (a + b) * (p * p) ≡ (a * p + b * p) * (a * p + b * p)
      square a b p = omega arith

  -- a number Y that is below q P by P at least
  below_by : (Y : ℕ) → Y + P ≤ q * P → (Y + q * P) * (Y + q * P) < 4 * (n * (P * P))
  below_by Y h =
      lt_of_le_of_lt (squared (Y + q * P) ((2 * q - 1) * P) (reach q Y h))
      (subst (λ (v : ℕ). v < 4 * (n * (P * P))) (square (2 * q - 1) P)
      (subst (λ (v : ℕ). (2 * q - 1) * (2 * q - 1) * (P * P) < v) (mul_assoc 4 n (P * P))
      (mul-lt-mul_of_pos_right (narrow q close.low) (mul-pos pos pos))))
    where
      squared : (a b : ℕ) → a ≤ b → a * a ≤ b * b
      squared a b l = mul-le-mul l l

      square : (a p : ℕ) → a * a * (p * p) ≡ a * p * (a * p)
      square a p = omega arith

      narrow : (q : ℕ) → q * q < n + q → (2 * q - 1) * (2 * q - 1) < 4 * n
      narrow zero l = omega arith
      narrow (suc p) l = let e : 2 * suc p - 1 ≡ 2 * p + 1 = omega arith in rw e (omega arith)

      reach : (q y : ℕ) → y + P ≤ q * P → y + q * P ≤ (2 * q - 1) * P
      reach zero y l = omega arith
      reach (suc p) y l = let e : 2 * suc p - 1 ≡ 2 * p + 1 = omega arith in rw e (omega arith)

  -- a number below q P, where q squared is no more than n
  below_whole : (Y : ℕ) → Y < q * P → q * q ≤ n → (Y + q * P) * (Y + q * P) < 4 * (n * (P * P))
  below_whole Y l h = lt_of_lt_of_le (under Y (q * P) l) (subst (λ (v : ℕ). v ≤ 4 * (n * (P * P))) (square q P) (four (q * q) n (P * P) h))
    where
      step : (y d : ℕ) → (y + (y + 1 + d)) * (y + (y + 1 + d)) < 4 * ((y + 1 + d) * (y + 1 + d))
      step y d = omega arith

      under : (y r : ℕ) → y < r → (y + r) * (y + r) < 4 * (r * r)
      under y r l =
          let e : y + 1 + (r - (y + 1)) ≡ r = omega arith in
          subst (λ (v : ℕ). (y + v) * (y + v) < 4 * (v * v)) e (step y (r - (y + 1)))

      square : (q p : ℕ) → 4 * (q * q * (p * p)) ≡ 4 * (q * p * (q * p))
      square q p = omega arith

      four : (a b c : ℕ) → a ≤ b → 4 * (a * c) ≤ 4 * (b * c)
      four a b c h = let k : a * c ≤ b * c = mul-le-mul_right c h in omega arith

-- ---- what the nearest number of 24 digits is nearest to

module _ (n q k : ℕ) (close : Close n q) (reaches : 2 ^ 46 ≤ n) (m i : ℕ) (short : m < 2 ^ 24) where
  pub midpoint_above : q * 2 ^ k < m * 2 ^ i → 4 * (n * 4 ^ k) < (m * 2 ^ i + q * 2 ^ k) * (m * 2 ^ i + q * 2 ^ k)
  midpoint_above l =
      rw (four_square k)
      (⊎_elim
      (λ c. subst (λ (v : ℕ). 4 * (n * (2 ^ k * 2 ^ k)) < (v + q * 2 ^ k) * (v + q * 2 ^ k)) (sym c.1)
      (over c.0 (lt_of_mul-lt-mul_right (2 ^ k) (subst (λ (v : ℕ). q * 2 ^ k < v) c.1 l))))
      (λ s. absurd (lt_irrefl (q * 2 ^ k) (lt_of_lt_of_le l (le_trans (le_of_lt s) (mul-le-mul_right (2 ^ k) (root_reaches n q close reaches))))))
      (multiple m i k short))
    where
      over : (c : ℕ) → q < c → 4 * (n * (2 ^ k * 2 ^ k)) < (c * 2 ^ k + q * 2 ^ k) * (c * 2 ^ k + q * 2 ^ k)
      over c h =
          let e : q + 1 + (c - (q + 1)) ≡ c = omega arith in
          subst (λ (v : ℕ). 4 * (n * (2 ^ k * 2 ^ k)) < (v * 2 ^ k + q * 2 ^ k) * (v * 2 ^ k + q * 2 ^ k)) e
          (above_by n q (2 ^ k) (pow_pos k) close (c - (q + 1)))

  pub midpoint_below : m * 2 ^ i < q * 2 ^ k → (m * 2 ^ i + q * 2 ^ k) * (m * 2 ^ i + q * 2 ^ k) < 4 * (n * 4 ^ k)
  midpoint_below l =
      rw (four_square k)
      (⊎_elim
      (λ c. below_by n q (2 ^ k) (pow_pos k) close (m * 2 ^ i)
      (subst (λ (v : ℕ). v + 2 ^ k ≤ q * 2 ^ k) (sym c.1)
      (next c.0 q (2 ^ k) (lt_of_mul-lt-mul_right (2 ^ k) (subst (λ (v : ℕ). v < q * 2 ^ k) c.1 l)))))
      (λ s. least (dec_le q (2 ^ 23)) s)
      (multiple m i k short))
    where
      next : (c q p : ℕ) → c < q → c * p + p ≤ q * p
      next c q p h =
          let g : c + 1 ≤ q = omega arith in
          let k : (c + 1) * p ≤ q * p = mul-le-mul_right p g in
          omega arith

      grow : (a b p : ℕ) → a < b → a + p ≤ b + p
      grow a b p h = omega arith

      least : Dec (q ≤ 2 ^ 23) → m * 2 ^ i < 2 ^ 23 * 2 ^ k → (m * 2 ^ i + q * 2 ^ k) * (m * 2 ^ i + q * 2 ^ k) < 4 * (n * (2 ^ k * 2 ^ k))
      least (yes h) s = below_whole n q (2 ^ k) (pow_pos k) close (m * 2 ^ i) l (le_trans (mul-le-mul h h) reaches)
      least (no h) s =
          below_by n q (2 ^ k) (pow_pos k) close (m * 2 ^ i) (le_trans (grow (m * 2 ^ i) (2 ^ 23 * 2 ^ k) (2 ^ k) s) (next (2 ^ 23) q (2 ^ k) (lt_of_not-le h)))
