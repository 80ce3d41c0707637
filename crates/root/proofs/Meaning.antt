-- `root_of` is the square root of document 01, on every f32, and nothing else is: the law that joins what callers cite with what readers believe.
-- Assumes nothing.
use Prim.Native.Nat.{ℕ, zero, suc, ◌+◌, ◌-◌, ◌*◌, ◌/◌, ◌^◌, ◌≤◌, ◌<◌}
use native.Mathlib.Nat.{lt_of_lt_of_le, le_of_lt, zero-lt-suc, mul-pos, mul-lt-mul_of_pos_right, mul-le-mul_right}
use native.Mathlib.Omega.{arith}
use mathlib.Core.Path.{◌≡◌, refl, sym, ap, ◌∙◌, subst}
use mathlib.Core.Bool.{true, false}
use borrow.Author.Tests.{lt-ltb}
use lib.Dec.{T, eqb-suc-zero}
use lib.IntN.{ℤ}
use lib.Count.{count_leading_zeros}
use lib.Pow.{pow-add, pow_pos, pow_mono}
use lib.Ieee.{Float, nan, inf, fin, binary32, fits, odd, up, down, lt, is_nan, of_bits}
use lib.Ieee.Fits.{odd-fits, nan-fits, up_pos}
use Rattle.float.specs.Units.{units_of}
use Rattle.float.proofs.Units.{units_shape, units_tell, units_below, units_odd, odd_is_fin}
use Rattle.root.specs.Root.{counts, square_units, Nearest, IsRoot, nearest_root, dropped, rounded_root, root_of}
use Rattle.root.specs.Scale.{Scale, Close, dropped_by, left}
use Rattle.root.proofs.Whole.{nearest_root_lem}
use Rattle.root.proofs.Digits.{pow_between, brought, square_places, left_whole, left_low, left_high, root_scaled}
use Rattle.root.proofs.Midpoints.{root_ends, midpoint_above, midpoint_below}

-- ---- numbers that count

pub record Shaped (y : Float) : Type 0 where
  pub digits : ℕ
  pub place : ℕ
  pub units : units_of y ≡ digits * 2 ^ place
  pub short : digits < 2 ^ 24

shaped : (y : Float) → T (counts y) → Shaped y
shaped nan t = absurd t
shaped (inf s) t = absurd t
shaped (fin true m e) t = absurd t
shaped (fin false m e) t =
    let s = units_shape false m e t in
    record { digits = m; place = s.0; units = s.1; short = s.2 }

counted : (r : Float) (m : ℕ) (e : ℤ) → r ≡ fin false m e → T (fits binary32 r) → T (counts r)
counted r m e p h = subst (λ (v : Float). T (counts v)) (sym p) (subst (λ (v : Float). T (fits binary32 v)) p h)

-- ---- the rounded root of a number of 24 digits and some zeros

module _ (x : Float) {m j : ℕ} (s : Scale (square_units x) m j) where
  q : ℕ
  q = nearest_root (left m j)

  close : Close (left m j) q
  unfolding q
  close = nearest_root_lem (left m j) (omega (arith, left_low s)) (omega (arith, left_high s))

  short : q < 2 ^ 24
  short = root_ends (left m j) q close.low (left_high s)

  is : rounded_root (square_units x) ≡ odd 24 false q (dropped_by j) 149
  unfolding q
  is = root_scaled s

  units : units_of (rounded_root (square_units x)) ≡ q * 2 ^ dropped_by j
  units = ap units_of is ∙ units_odd false q (dropped_by j)

  four : 4 * square_units x ≡ 4 * (left m j * 4 ^ dropped_by j)
  four = ap (λ (v : ℕ). 4 * v) (left_whole s)

  held : T (counts (rounded_root (square_units x)))
  held =
      let f = odd_is_fin 24 false q (dropped_by j) 149 in
      counted (rounded_root (square_units x)) f.0 f.1 (is ∙ f.2)
      (subst (λ (v : Float). T (fits binary32 v)) (sym is)
      (odd-fits binary32 24 false q (dropped_by j) short (le_of_lt short)
      (lt_of_lt_of_le (mul-lt-mul_of_pos_right short (pow_pos (dropped_by j)))
      (subst (λ (v : ℕ). v ≤ 2 ^ 277) (pow-add 2 24 (dropped_by j)) (pow_mono (bound j s.near))))))
    where
      bound : (j : ℕ) → j < 410 → 24 + dropped_by j ≤ 277
      bound j h = omega arith

  nearest : Nearest x (rounded_root (square_units x))
  nearest = record {
    held = held;
    below =
        λ y t. let y' = shaped y t in
        rw (four, units, y'.units) (midpoint_below (left m j) q (dropped_by j) close (left_low s) y'.digits y'.place y'.short);
    above =
        λ y t. let y' = shaped y t in
        rw (four, units, y'.units) (midpoint_above (left m j) q (dropped_by j) close (left_low s) y'.digits y'.place y'.short);
  }

-- ---- every positive finite f32 is such a number

ends : (m j : ℕ) → 2 ^ 23 ≤ m → m * 2 ^ j < 2 ^ 426 → j < 410
ends m j h l = less j (pow_between (m * 2 ^ j) (23 + j) 426 (subst (λ (v : ℕ). v ≤ m * 2 ^ j) (sym (pow-add 2 23 j)) (mul-le-mul_right (2 ^ j) h)) l)
  where
    less : (j : ℕ) → 23 + j < 426 → j < 410
    less j h = omega arith

positive : (m : ℕ) (e : ℤ) → T (fits binary32 (fin false (suc m) e)) → Nearest (fin false (suc m) e) (rounded_root (square_units (fin false (suc m) e)))
positive m e h =
    let x = fin false (suc m) e in
    let u = units_shape false (suc m) e h in
    let z = count_leading_zeros 32 (suc m) - 8 in
    let b = brought (suc m) (zero-lt-suc m) u.2 in
    let same : square_units x ≡ suc m * 2 ^ z * 2 ^ (u.0 + 149 - z) = ap (λ (v : ℕ). v * 2 ^ 149) u.1 ∙ square_places (suc m) u.0 z b.far in
    let small : square_units x < 2 ^ 426 = subst (λ (v : ℕ). square_units x < v) (sym (pow-add 2 277 149))
    (mul-lt-mul_of_pos_right (units_below x h) (pow_pos 149)) in
    nearest x (record {
      low = b.low;
      high = b.high;
      far = far u.0 z b.far;
      near = ends (suc m * 2 ^ z) (u.0 + 149 - z) b.low (subst (λ (v : ℕ). v < 2 ^ 426) same small);
      same = same;
    })
  where
    far : (i z : ℕ) → z ≤ 23 → 23 ≤ i + 149 - z
    far i z h = omega arith

-- ---- what callers cite is what readers believe

-- Document 01, Geometry: `root_of` is the square root of every f32.
pub root_is_root : (x : Float) → T (fits binary32 x) → IsRoot x (root_of x)
unfolding root_of
root_is_root nan h = refl
root_is_root (inf true) h = refl
root_is_root (inf false) h = refl
root_is_root (fin s zero e) h = refl
root_is_root (fin true (suc m) e) h = rw eqb-suc-zero
root_is_root (fin false (suc m) e) h = rw eqb-suc-zero (positive m e h)

-- ---- there is one root only

same_number : (r t : Float) → T (counts r) → T (counts t) → units_of r ≡ units_of t → r ≡ t
same_number nan t h k e = absurd h
same_number (inf s) t h k e = absurd h
same_number (fin true m d) t h k e = absurd h
same_number (fin false m d) nan h k e = absurd k
same_number (fin false m d) (inf s) h k e = absurd k
same_number (fin false m d) (fin true n f) h k e = absurd k
same_number (fin false m d) (fin false n f) h k e = units_tell false m d n f h k e

-- the midpoint of two different roots would be on both sides of x
crossed : (x r t : Float) → Nearest x r → Nearest x t → units_of r < units_of t → ⊥
crossed x r t a b l = clash (units_of r) (units_of t) (square_units x) (a.above t b.held l) (b.below r a.held l)
  where
    clash : (i j s : ℕ) → 4 * s < (j + i) * (j + i) → (i + j) * (i + j) < 4 * s → ⊥
    clash i j s h k = omega arith

nearest_unique : (x r t : Float) → Nearest x r → Nearest x t → r ≡ t
nearest_unique x r t a b = same_number r t a.held b.held (level (crossed x r t a b) (crossed x t r b a))
  where
    level : {i j : ℕ} → (i < j → ⊥) → (j < i → ⊥) → i ≡ j
    level f g = omega arith

pub root_unique : (x r t : Float) → IsRoot x r → IsRoot x t → r ≡ t
root_unique nan r t a b = a ∙ sym b
root_unique (inf true) r t a b = a ∙ sym b
root_unique (inf false) r t a b = a ∙ sym b
root_unique (fin s zero e) r t a b = a ∙ sym b
root_unique (fin true (suc m) e) r t a b = a ∙ sym b
root_unique (fin false (suc m) e) r t a b = nearest_unique (fin false (suc m) e) r t a b

-- whatever is a root of x is the one that is worked out
pub is_root_of : (x r : Float) → T (fits binary32 x) → IsRoot x r → r ≡ root_of x
is_root_of x r h a = root_unique x r (root_of x) a (root_is_root x h)

-- ---- what callers may count on beside it

a_number : (n : ℕ) → is_nan (rounded_root n) ≡ false
unfolding rounded_root is_nan
a_number n = ap is_nan (odd_is_fin 24 false (nearest_root (n / 4 ^ dropped n)) (dropped n) 149).2

-- the root of a number that is not below zero is a number
pub root_no_nan : (x : Float) → lt x (of_bits binary32 0) ≡ false → is_nan x ≡ false → is_nan (root_of x) ≡ false
unfolding root_of lt is_nan of_bits
root_no_nan nan h k = k
root_no_nan (inf true) h k = h
root_no_nan (inf false) h k = refl
root_no_nan (fin s zero e) h k = refl
root_no_nan (fin true (suc m) e) h k = rw eqb-suc-zero (sym (lt-ltb 0 _ (some m e)) ∙ h)
  where
    some : (m : ℕ) (e : ℤ) → 0 < suc m * up e * 1 + 0 * 1 * down e
    some m e = let p : 0 < suc m * up e = mul-pos (zero-lt-suc m) (up_pos e) in omega arith
root_no_nan (fin false (suc m) e) h k = rw eqb-suc-zero (a_number (square_units (fin false (suc m) e)))

-- the root of an f32 is an f32
counts_fits : (r : Float) → T (counts r) → T (fits binary32 r)
counts_fits nan h = absurd h
counts_fits (inf s) h = absurd h
counts_fits (fin true m e) h = absurd h
counts_fits (fin false m e) h = h

pub root_fits : (x : Float) → T (fits binary32 x) → T (fits binary32 (root_of x))
unfolding root_of
root_fits nan h = h
root_fits (inf true) h = nan-fits binary32
root_fits (inf false) h = h
root_fits (fin s zero e) h = h
root_fits (fin true (suc m) e) h = rw eqb-suc-zero (nan-fits binary32)
root_fits (fin false (suc m) e) h = rw eqb-suc-zero (counts_fits (rounded_root (square_units (fin false (suc m) e))) (positive m e h).held)
