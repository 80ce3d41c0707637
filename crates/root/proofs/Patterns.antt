-- The root from bit pattern to bit pattern: what the fields of a positive finite pattern are in square units, that the answer's two parts put together are
-- its pattern, and what the other patterns give. Assumes nothing.
use Prim.Native.Nat.{ℕ, zero, suc, ◌+◌, ◌-◌, ◌*◌, ◌/◌, ◌%◌, ◌^◌, ◌≤◌, ◌<◌}
use native.Mathlib.Nat.{mul_assoc, mul-one, mul-pos, zero-mul, add_comm, mod-eq_of_lt, lt_of_lt_of_le, le_of_lt}
use native.Mathlib.Omega.{arith}
use mathlib.Core.Path.{◌≡◌, refl, sym, ap, ◌∙◌, subst}
use mathlib.Core.Bool.{Bool, true, false, cond}
use borrow.Author.Tests.{ne_eqb, le-leb}
use lib.Dec.{eqb, eqb-suc-zero, lit≤}
use lib.IntN.{ℤ}
use lib.Pow.{pow-add, pow_pos, pow_mono}
use lib.Count.{count_leading_zeros}
use lib.Ieee.{Float, nan, inf, fin, binary32, up, down, of_bits, of_fields, odd}
use Rattle.float.specs.Units.{units_of}
use Rattle.float.proofs.Units.{units_of_equal, units_odd, odd_is_fin, units_of_low_pattern, units_of_high_pattern, no_sign, pattern_is_finite}
use Rattle.root.specs.Root.{square_units, rounded_root, root_of}
use Rattle.root.specs.Scale.{Scale, Close, dropped_by, left}
use Rattle.root.proofs.Whole.{is_nearest_root}
use Rattle.root.proofs.Digits.{brought, square_places, left_low, left_high, root_scaled}
use Rattle.root.proofs.Midpoints.{root_reaches, root_ends}

-- ---- a positive finite pattern in square units

shifted : (a z : ℕ) → a * 2 ^ z < 2 ^ 24 → a * 2 ^ z % 2 ^ 32 ≡ a * 2 ^ z
shifted a z h = mod-eq_of_lt (lt_of_lt_of_le h (pow_mono {i = 24} {j = 32} (lit≤ tt)))

pub low_pattern_scale : (b : ℕ) → 0 < b → b / 8388608 ≡ 0
    → Scale (square_units (of_bits binary32 b)) (b % 8388608 * 2 ^ (count_leading_zeros 32 (b % 8388608) - 8) % 2 ^ 32) (149 - (count_leading_zeros 32 (b % 8388608) - 8))
low_pattern_scale b p h =
    let t = b % 8388608 in
    let z = count_leading_zeros 32 t - 8 in
    let k = brought t (omega arith) (omega arith) in
    rw (shifted t z k.high)
    (record {
      low = k.low;
      high = k.high;
      far = far z k.far;
      near = near z;
      same = ap (λ (v : ℕ). v * 2 ^ 149) (units_of_low_pattern b h ∙ sym (mul-one t)) ∙ square_places t 0 z k.far;
    })
  where
    far : (z : ℕ) → z ≤ 23 → 23 ≤ 149 - z
    far z h = omega arith

    near : (z : ℕ) → 149 - z < 410
    near z = omega arith

pub high_pattern_scale : (b : ℕ) → b < 0x7F800000 → 0 < b / 8388608
    → Scale (square_units (of_bits binary32 b)) (b % 8388608 + 8388608) (b / 8388608 + 148)
high_pattern_scale b h k = record {
  low = omega arith;
  high = omega arith;
  far = omega arith;
  near = omega arith;
  same = ap (λ (v : ℕ). v * 2 ^ 149) (units_of_high_pattern b h k) ∙ places (b % 8388608) (b / 8388608) k;
}
  where
    lifted : (E : ℕ) → 0 < E → E - 1 + 149 ≡ E + 148
    lifted E h = omega arith

    places : (t E : ℕ) → 0 < E → (8388608 + t) * 2 ^ (E - 1) * 2 ^ 149 ≡ (t + 8388608) * 2 ^ (E + 148)
    places t E h =
        mul_assoc (8388608 + t) (2 ^ (E - 1)) (2 ^ 149)
        ∙ ap (λ (v : ℕ). (8388608 + t) * v) (sym (pow-add 2 (E - 1) 149) ∙ ap (λ (v : ℕ). 2 ^ v) (lifted E h))
        ∙ ap (λ (v : ℕ). v * 2 ^ (E + 148)) (add_comm 8388608 t)

-- ---- the answer's pattern

module _ (k q : ℕ) (near : k < 200) (low : 2 ^ 23 ≤ q) (high : q < 2 ^ 24) where
  field : (k * 8388608 + q) / 8388608 ≡ suc k
  field = omega arith

  digits : (k * 8388608 + q) % 8388608 ≡ q - 8388608
  digits = omega arith

  answer_pattern : of_bits binary32 (k * 8388608 + q) ≡ odd 24 false q k 149
  unfolding of_fields
  answer_pattern =
      no_sign (k * 8388608 + q) (omega arith)
      ∙ rw (field, digits)
      (rw (ne_eqb (suc k) 255 (omega arith)) (ap (λ (v : ℕ). odd 24 false v k 149) whole))
    where
      whole : 8388608 + (q - 8388608) ≡ q
      whole = omega arith

pub answer_is_root : {n m j q : ℕ} → Scale n m j → Close (left m j) q → of_bits binary32 (dropped_by j * 8388608 + q) ≡ rounded_root n
answer_is_root {n} {m} {j} {q} s c =
    answer_pattern (dropped_by j) q (near j s.near) (root_reaches (left m j) q c (left_low s)) (root_ends (left m j) q c.low (left_high s))
    ∙ ap (λ (v : ℕ). odd 24 false v (dropped_by j) 149) (is_nearest_root (omega (arith, left_low s)) (omega (arith, left_high s)) c)
    ∙ sym (root_scaled s)
  where
    near : (j : ℕ) → j < 410 → dropped_by j < 200
    near j h = omega arith

-- ---- every pattern's root

zero_units : (s : Bool) (e : ℤ) → units_of (fin s 0 e) ≡ 0
zero_units s e = units_of_equal (fin s 0 e) 0 (ap (λ (v : ℕ). v * 2 ^ 149) (zero-mul (up e)) ∙ zero-mul (2 ^ 149) ∙ sym (zero-mul (down e)))

none : {A : Type 0} (n : ℕ) → n ≡ 0 → 0 < n → A
none n e h = absurd (omega arith)

-- a number that is not zero: below zero, and above
below_zero : (m : ℕ) (e : ℤ) → 0 < units_of (fin true m e) → root_of (fin true m e) ≡ nan
unfolding root_of
below_zero zero e h = none (units_of (fin true 0 e)) (zero_units true e) h
below_zero (suc m) e h = rw eqb-suc-zero

above_zero : (m : ℕ) (e : ℤ) → 0 < units_of (fin false m e) → root_of (fin false m e) ≡ rounded_root (square_units (fin false m e))
unfolding root_of
above_zero zero e h = none (units_of (fin false 0 e)) (zero_units false e) h
above_zero (suc m) e h = rw eqb-suc-zero

odd_below_zero : (q k : ℕ) → 0 < q → root_of (odd 24 true q k 149) ≡ nan
odd_below_zero q k h =
    let f = odd_is_fin 24 true q k 149 in
    let some : 0 < units_of (odd 24 true q k 149) = subst (λ (v : ℕ). 0 < v) (sym (units_odd true q k)) (mul-pos h (pow_pos k)) in
    ap root_of f.2 ∙ below_zero f.0 f.1 (subst (λ (v : Float). 0 < units_of v) f.2 some)

fields_below_zero : (E t : ℕ) → 0 < E + t → root_of (of_fields binary32 true E t) ≡ nan
unfolding of_fields
fields_below_zero zero t h = odd_below_zero t 0 (omega arith)
fields_below_zero (suc E) t h = go (eqb (suc E) 255) (eqb t 0)
  where
    go : (a b : Bool) → root_of (cond a (cond b (inf true) nan) (odd 24 true (8388608 + t) E 149)) ≡ nan
    go true true = unfold root_of in refl
    go true false = unfold root_of in refl
    go false b = odd_below_zero (8388608 + t) E (omega arith)

-- "Zero keeps its sign"
pub zero_pattern : (b : ℕ) → b < 2 ^ 32 → b % 0x80000000 ≡ 0 → root_of (of_bits binary32 b) ≡ of_bits binary32 b
unfolding of_bits root_of
zero_pattern b l h = go (b / 0x80000000) (omega arith) (omega arith)
  where
    go : (s : ℕ) → s < 2 → b ≡ s * 0x80000000 → root_of (of_bits binary32 b) ≡ of_bits binary32 b
    go zero l e = rw e refl
    go (suc zero) l e = rw e refl
    go (suc (suc s)) l e = absurd (omega arith)

-- "below zero NaN"
pub negative_pattern : (b : ℕ) → b < 2 ^ 32 → 0x80000000 < b → root_of (of_bits binary32 b) ≡ nan
unfolding of_bits
negative_pattern b l h = rw (le-leb 0x80000000 b (le_of_lt h)) (fields_below_zero (b % 0x80000000 / 8388608) (b % 8388608) (omega arith))

-- infinity and NaN stay
pub top_pattern : (b : ℕ) → b < 0x80000000 → 0x7F800000 ≤ b → root_of (of_bits binary32 b) ≡ of_bits binary32 b
unfolding of_fields
top_pattern b l h =
    let e : b / 8388608 ≡ 255 = omega arith in
    rw (no_sign b l, e) (go (eqb (b % 8388608) 0))
  where
    go : (z : Bool) → root_of (cond z (inf false) nan) ≡ cond z (inf false) nan
    go true = unfold root_of in refl
    go false = unfold root_of in refl

some_units : (b : ℕ) → 0 < b → b < 0x7F800000 → 0 < units_of (of_bits binary32 b)
some_units b p h = go (b / 8388608) refl
  where
    go : (E : ℕ) → b / 8388608 ≡ E → 0 < units_of (of_bits binary32 b)
    go zero e = rw (units_of_low_pattern b e) (omega arith)
    go (suc E) e = rw (units_of_high_pattern b h (omega arith)) (mul-pos (omega arith) (pow_pos (b / 8388608 - 1)))

pub positive_pattern : (b : ℕ) → 0 < b → b < 0x7F800000 → root_of (of_bits binary32 b) ≡ rounded_root (square_units (of_bits binary32 b))
positive_pattern b p h =
    let f = pattern_is_finite b h in
    rw f.2 (above_zero f.0 f.1 (subst (λ (v : Float). 0 < units_of v) f.2 (some_units b p h)))
