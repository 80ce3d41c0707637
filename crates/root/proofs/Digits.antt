-- The rounded root of n = m * 2 ^ j, for an m of 24 digits: how many digits are dropped, and what is left of the number. Assumes nothing.
use Prim.Native.Nat.{ℕ, zero, suc, ◌+◌, ◌-◌, ◌*◌, ◌/◌, ◌%◌, ◌^◌, ◌≤◌, ◌<◌}
use native.Mathlib.Nat.{le_antisymm, le_trans, lt_irrefl, lt_of_lt_of_le, lt_of_not-le, mul-lt-mul_of_pos_right, mul-le-mul_right, mul_assoc, pow-suc}
use native.Mathlib.Omega.{arith}
use mathlib.Core.Path.{◌≡◌, refl, sym, ap, ◌∙◌, subst}
use mathlib.Core.Bool.{false}
use mathlib.Core.Logic.{◌⊎◌, inl, inr, ⊎_elim}
use lib.Dec.{lit≤}
use lib.Pow.{pow-add, pow_pos, pow_mono, shl-shr}
use lib.Count.{count_leading_zeros, leading_top}
use lib.Ieee.{size, odd}
use lib.Ieee.Digits.{size-lt, size-le}
use Rattle.root.specs.Root.{nearest_root, dropped, rounded_root}
use Rattle.root.specs.Scale.{Scale, dropped_by, left}

-- ---- powers of two

pub four_pow : (k : ℕ) → 4 ^ k ≡ 2 ^ (2 * k)
four_pow zero = refl
four_pow (suc k) = pow-suc 4 k ∙ ap (λ (v : ℕ). v * 4) (four_pow k) ∙ sym (pow-add 2 (2 * k) 2) ∙ ap (λ (v : ℕ). 2 ^ v) (twice k)
  where
    twice : (k : ℕ) → 2 * k + 2 ≡ 2 * suc k
    twice k = omega arith

-- 2 ^ a is at most n and n is below 2 ^ b: a is below b
pub pow_between : (n a b : ℕ) → 2 ^ a ≤ n → n < 2 ^ b → a < b
pow_between n a b l h = lt_of_not-le (λ (g : b ≤ a). lt_irrefl n (lt_of_lt_of_le h (le_trans (pow_mono g) l)))

size_of : (n j : ℕ) → 2 ^ j ≤ n → n < 2 ^ (j + 1) → size n ≡ j + 1
size_of n j l h = le_antisymm (size-le n (j + 1) h) (step (pow_between n j (size n) l (size-lt n)))
  where
    step : {a b : ℕ} → a < b → a + 1 ≤ b
    step f = omega arith

-- ---- a number below 2 ^ 24 brought to 24 digits, by its leading zeros

pub record Brought (a z : ℕ) : Type 0 where
  pub far : z ≤ 23
  pub low : 2 ^ 23 ≤ a * 2 ^ z
  pub high : a * 2 ^ z < 2 ^ 24

-- j + 1 is how many digits a has
brought_by : (a j : ℕ) → 2 ^ j ≤ a → a < 2 ^ suc j → j ≤ 23 → Brought a (23 - j)
brought_by a j l u g = record {
  far = omega arith;
  low =
      subst (λ (v : ℕ). v ≤ a * 2 ^ (23 - j)) (sym (pow-add 2 j (23 - j)) ∙ ap (λ (v : ℕ). 2 ^ v) (up_to j 23 g)) (mul-le-mul_right (2 ^ (23 - j)) l);
  high =
      subst (λ (v : ℕ). a * 2 ^ (23 - j) < v) (sym (pow-add 2 (suc j) (23 - j)) ∙ ap (λ (v : ℕ). 2 ^ v) (past j 23 g))
      (mul-lt-mul_of_pos_right u (pow_pos (23 - j)));
}
  where
    up_to : (z t : ℕ) → z ≤ t → z + (t - z) ≡ t
    up_to z t h = omega arith

    past : (z t : ℕ) → z ≤ t → suc z + (t - z) ≡ suc t
    past z t h = omega arith

module _ (a : ℕ) (some : 0 < a) (short : a < 2 ^ 24) where
  digits_of : (j : ℕ) × (count_leading_zeros 32 a + suc j ≡ 32) × (2 ^ j ≤ a) × (a < 2 ^ suc j)
  digits_of = leading_top 32 a some (lt_of_lt_of_le short (pow_mono {i = 24} {j = 32} (lit≤ tt)))

  few : digits_of.0 < 24
  few = pow_between a digits_of.0 24 digits_of.2 short

  pub zeros_ahead : 8 ≤ count_leading_zeros 32 a
  zeros_ahead = ahead (count_leading_zeros 32 a) digits_of.0 digits_of.1 few
    where
      ahead : (z j : ℕ) → z + suc j ≡ 32 → j < 24 → 8 ≤ z
      ahead z j e g = omega arith

  pub brought : Brought a (count_leading_zeros 32 a - 8)
  brought = subst (Brought a) (by (count_leading_zeros 32 a) digits_of.0 digits_of.1 few) (brought_by a digits_of.0 digits_of.2 digits_of.3 (under few))
    where
      by : (z j : ℕ) → z + suc j ≡ 32 → j < 24 → 23 - j ≡ z - 8
      by z j e g = omega arith

      under : {j : ℕ} → j < 24 → j ≤ 23
      under g = omega arith

-- the places that a number of units has in square units, once z of them went into its digits
pub square_places : (a i z : ℕ) → z ≤ 23 → a * 2 ^ i * 2 ^ 149 ≡ a * 2 ^ z * 2 ^ (i + 149 - z)
square_places a i z few =
    mul_assoc a (2 ^ i) (2 ^ 149)
    ∙ ap (λ (v : ℕ). a * v) (sym (pow-add 2 i 149) ∙ ap (λ (v : ℕ). 2 ^ v) (parts i z few) ∙ pow-add 2 z (i + 149 - z))
    ∙ sym (mul_assoc a (2 ^ z) (2 ^ (i + 149 - z)))
  where
    parts : (i z : ℕ) → z ≤ 23 → i + 149 ≡ z + (i + 149 - z)
    parts i z h = omega arith

-- ---- the rounded root

parity : (j : ℕ) → 23 ≤ j → (j - 2 * dropped_by j ≡ 23) ⊎ (j - 2 * dropped_by j ≡ 24)
parity j h = go (j % 2) (omega arith) refl
  where
    go : (r : ℕ) → r < 2 → j % 2 ≡ r → (j - 2 * dropped_by j ≡ 23) ⊎ (j - 2 * dropped_by j ≡ 24)
    go zero l e = inr (omega arith)
    go (suc zero) l e = inl (omega arith)
    go (suc (suc r)) l e = absurd (omega arith)

module _ {n m j : ℕ} (s : Scale n m j) where
  size_scaled : size n ≡ 23 + j + 1
  size_scaled =
      ap size s.same
      ∙ size_of (m * 2 ^ j) (23 + j) (subst (λ (v : ℕ). v ≤ m * 2 ^ j) (sym (pow-add 2 23 j)) (mul-le-mul_right (2 ^ j) s.low))
      (subst (λ (v : ℕ). m * 2 ^ j < v) (sym (pow-add 2 24 j) ∙ ap (λ (v : ℕ). 2 ^ v) (regroup j)) (mul-lt-mul_of_pos_right s.high (pow_pos j)))
    where
      regroup : (j : ℕ) → 24 + j ≡ 23 + j + 1
      regroup j = omega arith

  dropped_scaled : dropped n ≡ dropped_by j
  unfolding dropped
  dropped_scaled = rw size_scaled (omega arith)

  pub left_whole : n ≡ left m j * 4 ^ dropped_by j
  left_whole =
      s.same
      ∙ ap (λ (v : ℕ). m * 2 ^ v) parts
      ∙ ap (λ (v : ℕ). m * v) (pow-add 2 (j - 2 * dropped_by j) (2 * dropped_by j))
      ∙ sym (mul_assoc m (2 ^ (j - 2 * dropped_by j)) (2 ^ (2 * dropped_by j)))
      ∙ ap (λ (v : ℕ). left m j * v) (sym (four_pow (dropped_by j)))
    where
      parts : j ≡ j - 2 * ((j - 23) / 2) + 2 * ((j - 23) / 2)
      parts = omega arith

  left_divided : n / 4 ^ dropped_by j ≡ left m j
  left_divided =
      ap (λ (v : ℕ). v / 4 ^ dropped_by j) left_whole
      ∙ ap (λ (v : ℕ). left m j * v / v) (four_pow (dropped_by j))
      ∙ shl-shr (left m j) (2 * dropped_by j)

  pub left_low : 2 ^ 46 ≤ left m j
  left_low = ⊎_elim (λ e. rw e (omega arith)) (λ e. rw e (omega arith)) (parity j s.far)

  pub left_high : left m j + 2 ^ 24 ≤ 2 ^ 48
  left_high = ⊎_elim (λ e. rw e (omega arith)) (λ e. rw e (omega arith)) (parity j s.far)

  pub root_scaled : rounded_root n ≡ odd 24 false (nearest_root (left m j)) (dropped_by j) 149
  unfolding rounded_root
  root_scaled = rw (dropped_scaled, left_divided)
