-- A finite f32 is its sign and its whole number of 2 ^ -149: the number is exact, it is below 2 ^ 277, it orders the values and tells them apart,
-- and the two fields of a bit pattern give it. Rests on the kit's `odd_val` and `of_bits-to_bits`. Assumes nothing.
use Prim.Native.Nat.{ℕ, zero, suc, ◌+◌, ◌-◌, ◌*◌, ◌/◌, ◌%◌, ◌^◌, ◌≤◌, ◌<◌}
use mathlib.Core.Path.{◌≡◌, refl, sym, ap, ◌∙◌, subst}
use mathlib.Core.Bool.{Bool, true, false, ◌&&◌, ◌||◌, beq, cond}
use native.Mathlib.Nat.{le_trans, mod-eq_of_lt, mul_assoc, mul_right_comm, mul-pos, mul-one, one-mul, zero-mul, mul-div_cancel, lt_of_not-le}
use native.Mathlib.Nat.{le_of_suc-le-suc, lt_of_lt_of_le, lt_irrefl, mul-lt-mul_of_pos_right, lt_of_mul-lt-mul_right}
use native.Mathlib.Omega.{arith}
use borrow.Author.Tests.{lt-leb, eq-eqb, ne_eqb}
use lib.Count.{count_trailing_zeros}
use lib.Dec.{T, eqb-suc-zero, leb, ltb, eqb, eqb→eq, leb→le, ltb→lt, lit<, lit≤}
use lib.IntN.{ℤ, pos, negsuc}
use lib.Pow.{pow-add, pow-lt}
use lib.Ieee.{Float, nan, inf, fin, binary32, up, down, minus, below, level, lt, eq, fits, to_bits, of_bits, of_fields, odd, size, top, hid}
use lib.Ieee.Fits.{and_l, and_r, up_pos, down_pos}
use lib.Ieee.Digits.{Equals, odd_val}
use lib.Ieee.Bits.{of_bits-to_bits}
use Rattle.float.specs.Units.{units_of}
use Rattle.float.proofs.Fraction.{lt_over, eq_over}

-- ---- what it says of `fin s m e` to fit

one_is_low : (u d : ℕ) → 0 < u → u * d ≡ 1 → d ≤ 1
one_is_low zero d p h = elim p [ ]
one_is_low (suc u) d p h = omega (arith, h)

-- m has 24 binary digits, e is no lower than -149, and the value is below 2 ^ 128
pub record Held (m : ℕ) (e : ℤ) : Type 0 where
  pub short : m < 2 ^ 24
  pub fine : down e ≤ 2 ^ 149
  pub small : m * up e < 2 ^ 128 * down e

pub fits_held : (s : Bool) (m : ℕ) (e : ℤ) → T (fits binary32 (fin s m e)) → Held m e
unfolding fits
fits_held s zero e h = record {
  short = lit< tt;
  fine = le_trans (one_is_low (up e) (down e) (up_pos e) (eqb→eq (up e * down e) 1 h)) (lit≤ tt);
  small = subst (λ (x : ℕ). x < 2 ^ 128 * down e) (sym (zero-mul (up e))) (mul-pos (lit< tt) (down_pos e));
}
fits_held s (suc m) e h =
    let A = eqb (suc m % 2) 1 in
    let B = ltb (suc m) (2 ^ 24) in
    let C = leb (down e) (2 ^ 149) in
    let D = ltb (suc m * up e) (2 ^ 128 * down e) in
    record {
      short = ltb→lt (suc m) (2 ^ 24) (and_r A B (and_l (A && B) C (and_l (A && B && C) D h)));
      fine = leb→le (down e) (2 ^ 149) (and_r (A && B) C (and_l (A && B && C) D h));
      small = ltb→lt (suc m * up e) (2 ^ 128 * down e) (and_r (A && B && C) D h);
    }

-- ---- the division leaves nothing over

pub units_of_equal : (x : Float) (a : ℕ) → Equals x a (2 ^ 149) → units_of x ≡ a
unfolding units_of
units_of_equal nan a h = absurd h
units_of_equal (inf s) a h = absurd h
units_of_equal (fin s m e) a h = ap (λ (x : ℕ). x / down e) h ∙ mul-div_cancel a (down_pos e)

pow_le_back : (a l : ℕ) → 2 ^ a ≤ 2 ^ l → a ≤ l
pow_le_back a l h = le_of_suc-le-suc (lt_of_not-le (λ (g : suc l ≤ a). lt_irrefl (2 ^ l) (lt_of_lt_of_le (pow-lt g) h)))

back : (a l : ℕ) → a ≤ l → l - a + a ≡ l
back a l h = omega arith

-- 2 ^ e is a power of two of 2 ^ -l
place : (l : ℕ) (e : ℤ) → down e ≤ 2 ^ l → (i : ℕ) × (up e * 2 ^ l ≡ 2 ^ i * down e)
place l (pos a) h = (a + l, sym (pow-add 2 a l) ∙ sym (mul-one (2 ^ (a + l))))
place l (negsuc a) h = (
  l - suc a,
  one-mul (2 ^ l) ∙ ap (λ (x : ℕ). 2 ^ x) (sym (back (suc a) l (pow_le_back (suc a) l h))) ∙ pow-add 2 (l - suc a) (suc a),
)

placed : (m u i d l : ℕ) → u * l ≡ 2 ^ i * d → m * u * l ≡ m * 2 ^ i * d
placed m u i d l h = mul_assoc m u l ∙ ap (λ (x : ℕ). m * x) h ∙ sym (mul_assoc m (2 ^ i) d)

module _ (s : Bool) (m : ℕ) (e : ℤ) (h : T (fits binary32 (fin s m e))) where
  pub units_shape : (i : ℕ) × (units_of (fin s m e) ≡ m * 2 ^ i) × (m < 2 ^ 24)
  units_shape =
      let k = fits_held s m e h in
      let p = place 149 e k.fine in
      (p.0, units_of_equal (fin s m e) (m * 2 ^ p.0) (placed m (up e) p.0 (down e) (2 ^ 149) p.1), k.short)

  pub units_exact : units_of (fin s m e) * down e ≡ m * up e * 2 ^ 149
  units_exact =
      let p = place 149 e (fits_held s m e h).fine in
      let v = placed m (up e) p.0 (down e) (2 ^ 149) p.1 in
      ap (λ (x : ℕ). x * down e) (units_of_equal (fin s m e) (m * 2 ^ p.0) v) ∙ sym v

-- ---- how large it is

below_of : (u m e d l t : ℕ) → u * d ≡ m * e * l → m * e < t * d → 0 < l → u < t * l
below_of u m e d l t a b p =
    lt_of_mul-lt-mul_right d
    (subst (λ (x : ℕ). x < t * l * d) (sym a) (subst (λ (x : ℕ). m * e * l < x) (mul_right_comm t d l) (mul-lt-mul_of_pos_right b p)))

pub units_below : (x : Float) → T (fits binary32 x) → units_of x < 2 ^ 277
unfolding units_of
units_below nan h = lit< tt
units_below (inf s) h = lit< tt
units_below (fin s m e) h = below_of (units_of (fin s m e)) m (up e) (down e) (2 ^ 149) (2 ^ 128) (units_exact s m e h) (fits_held s m e h).small (lit< tt)

-- ---- it orders the values

module _ (s : Bool) (m : ℕ) (e : ℤ) (t : Bool) (n : ℕ) (d : ℤ) (h : T (fits binary32 (fin s m e))) (k : T (fits binary32 (fin t n d))) where
  pub lt_by_signed_units : lt (fin s m e) (fin t n d) ≡ below s (units_of (fin s m e)) t (units_of (fin t n d))
  lt_by_signed_units =
      lt_over s m e t n d (units_of (fin s m e)) (units_of (fin t n d)) (2 ^ 149) (lit< tt) (sym (units_exact s m e h)) (sym (units_exact t n d k))

  pub eq_by_signed_units : eq (fin s m e) (fin t n d) ≡ level s (units_of (fin s m e)) t (units_of (fin t n d))
  eq_by_signed_units =
      eq_over s m e t n d (units_of (fin s m e)) (units_of (fin t n d)) (2 ^ 149) (lit< tt) (sym (units_exact s m e h)) (sym (units_exact t n d k))

pub lt_by_units : (m : ℕ) (e : ℤ) (n : ℕ) (d : ℤ) → T (fits binary32 (fin false m e)) → T (fits binary32 (fin false n d))
    → lt (fin false m e) (fin false n d) ≡ ltb (units_of (fin false m e)) (units_of (fin false n d))
lt_by_units m e n d h k = lt_by_signed_units false m e false n d h k

like_signs : (s x y : Bool) → (x && (beq s s || y)) ≡ x
like_signs true true y = refl
like_signs true false y = refl
like_signs false true y = refl
like_signs false false y = refl

pub eq_by_units : (s : Bool) (m : ℕ) (e : ℤ) (n : ℕ) (d : ℤ) → T (fits binary32 (fin s m e)) → T (fits binary32 (fin s n d))
    → eq (fin s m e) (fin s n d) ≡ eqb (units_of (fin s m e)) (units_of (fin s n d))
eq_by_units s m e n d h k = eq_by_signed_units s m e s n d h k ∙ like_signs s _ _

-- ---- the number and the sign tell the value

to_bits_of_units : (s : Bool) (m : ℕ) (e : ℤ)
    → to_bits binary32 (fin s m e)
    ≡ cond s (top binary32) 0 + (size (units_of (fin s m e)) - 24) * hid binary32 + units_of (fin s m e) / 2 ^ (size (units_of (fin s m e)) - 24)
unfolding to_bits units_of
to_bits_of_units s m e = refl

pub units_tell : (s : Bool) (m : ℕ) (e : ℤ) (n : ℕ) (d : ℤ) → T (fits binary32 (fin s m e)) → T (fits binary32 (fin s n d))
    → units_of (fin s m e) ≡ units_of (fin s n d) → fin s m e ≡ fin s n d
units_tell s m e n d h k p =
    sym (of_bits-to_bits binary32 (fin s m e) h)
    ∙ ap (of_bits binary32)
    (to_bits_of_units s m e ∙ ap (λ (u : ℕ). cond s (top binary32) 0 + (size u - 24) * hid binary32 + u / 2 ^ (size u - 24)) p
    ∙ sym (to_bits_of_units s n d))
    ∙ of_bits-to_bits binary32 (fin s n d) k

pub units_zero : (s : Bool) (m : ℕ) (e : ℤ) → T (fits binary32 (fin s m e)) → units_of (fin s m e) ≡ 0 → fin s m e ≡ fin s 0 (pos 0)
unfolding units_of
units_zero s m e h p = units_tell s m e 0 (pos 0) h (unfold fits in tt) p

-- ---- what a bit pattern without a sign says: its exponent's field E is b / 8388608, its digits t are b % 8388608. E = 0 has no leading digit,
-- and counts as E = 1

pub units_odd : (s : Bool) (t k : ℕ) → units_of (odd 24 s t k 149) ≡ t * 2 ^ k
units_odd s t k = units_of_equal (odd 24 s t k 149) (t * 2 ^ k) (odd_val 24 s t k 149)

units_low : (s : Bool) (t : ℕ) → units_of (of_fields binary32 s 0 t) ≡ t
unfolding of_fields
units_low s t = units_odd s t 0 ∙ mul-one t

units_high : (s : Bool) (x t : ℕ) → suc x < 255 → units_of (of_fields binary32 s (suc x) t) ≡ (8388608 + t) * 2 ^ x
unfolding of_fields
units_high s x t h =
    ap (λ (b : Bool). units_of (cond b (cond (eqb t 0) (inf s) nan) (odd 24 s (8388608 + t) x 149))) (ne_eqb (suc x) 255 (omega arith))
    ∙ units_odd s (8388608 + t) x

suc_sub_one : (x : ℕ) → suc x - 1 ≡ x
suc_sub_one x = omega arith

pub no_sign : (b : ℕ) → b < 0x80000000 → of_bits binary32 b ≡ of_fields binary32 false (b / 8388608) (b % 8388608)
unfolding of_bits
no_sign b h = rw (lt-leb 0x80000000 b h, mod-eq_of_lt h)

units_of_fields : (E t : ℕ) → E < 255 → units_of (of_fields binary32 false E t) ≡ cond (eqb E 0) t ((8388608 + t) * 2 ^ (E - 1))
units_of_fields zero t h = units_low false t
units_of_fields (suc x) t h = units_high false x t h ∙ rw (eqb-suc-zero, suc_sub_one x)

pub units_of_pattern : (b : ℕ) → b < 0x7F800000
    → units_of (of_bits binary32 b) ≡ cond (eqb (b / 8388608) 0) (b % 8388608) ((8388608 + b % 8388608) * 2 ^ (b / 8388608 - 1))
units_of_pattern b h = ap units_of (no_sign b (omega arith)) ∙ units_of_fields (b / 8388608) (b % 8388608) (omega arith)

pub units_of_low_pattern : (b : ℕ) → b / 8388608 ≡ 0 → units_of (of_bits binary32 b) ≡ b % 8388608
units_of_low_pattern b h = units_of_pattern b (omega arith) ∙ rw (eq-eqb (b / 8388608) 0 h)

pub units_of_high_pattern : (b : ℕ) → b < 0x7F800000 → 0 < b / 8388608 → units_of (of_bits binary32 b) ≡ (8388608 + b % 8388608) * 2 ^ (b / 8388608 - 1)
units_of_high_pattern b h k = units_of_pattern b h ∙ rw (ne_eqb (b / 8388608) 0 (omega arith))

-- ---- below infinity's pattern the value is finite

pub odd_is_fin : (d : ℕ) (s : Bool) (q k l : ℕ) → (m : ℕ) × (e : ℤ) × (odd d s q k l ≡ fin s m e)
unfolding odd
odd_is_fin d s zero k l = (0, pos 0, refl)
odd_is_fin d s (suc q) k l = (suc q / 2 ^ count_trailing_zeros d (suc q), minus (k + count_trailing_zeros d (suc q)) l, refl)

fields_are_fin : (E t : ℕ) → E < 255 → (m : ℕ) × (e : ℤ) × (of_fields binary32 false E t ≡ fin false m e)
unfolding of_fields
fields_are_fin zero t h = odd_is_fin 24 false t 0 149
fields_are_fin (suc x) t h =
    let r = odd_is_fin 24 false (8388608 + t) x 149 in
    (r.0, r.1, ap (λ (b : Bool). cond b (cond (eqb t 0) (inf false) nan) (odd 24 false (8388608 + t) x 149)) (ne_eqb (suc x) 255 (omega arith)) ∙ r.2)

pub pattern_is_finite : (b : ℕ) → b < 0x7F800000 → (m : ℕ) × (e : ℤ) × (of_bits binary32 b ≡ fin false m e)
pattern_is_finite b h =
    let r = fields_are_fin (b / 8388608) (b % 8388608) (omega arith) in
    (r.0, r.1, no_sign b (omega arith) ∙ r.2)

-- ---- examples: the smallest f32, 1.0, and the largest

smallest : units_of (of_bits binary32 0x00000001) ≡ 1
unfolding units_of of_bits
smallest = refl

one : units_of (of_bits binary32 0x3F800000) ≡ 2 ^ 149
unfolding units_of of_bits
one = refl

largest : units_of (of_bits binary32 0x7F7FFFFF) ≡ (2 ^ 24 - 1) * 2 ^ 253
unfolding units_of of_bits
largest = refl
