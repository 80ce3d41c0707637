-- What document 01 says of points and sides beside their definitions: where a NaN leads, that the code's magnitude is Rust's, and that the order of a product's
-- operands shows nowhere. Assumes nothing.
use Prim.Native.Nat.{ℕ, zero, suc, ◌+◌, ◌*◌, ◌<◌}
use mathlib.Core.Path.{◌≡◌, refl, ◌∙◌}
use mathlib.Core.Bool.{Bool, true, false}
use mathlib.Core.Logic.{◌↔◌}
use native.Mathlib.Nat.{mul_comm, mul-pos, zero-lt-suc, zero-mul, zero-add}
use native.Mathlib.Omega.{arith}
use borrow.Author.Tests.{lt-ltb, le-ltb}
use lib.Pow.{pow_pos}
use lib.IntN.{ℤ, pos, negsuc}
use lib.Ieee.{Float, Format, nan, inf, fin, binary32, of_bits, mul, neg, lt, le, eq, up, down, unlike}
use Rattle.point.specs.declared.Point.{Point}
use Rattle.point.specs.declared.Segment.{Segment}
use Rattle.point.specs.declared.EdgeSide.{EdgeSide}
use Rattle.point.specs.declared.EdgeSide.TheVariants.{Left, Right, Edge}
use Rattle.point.specs.Point.{minus_of, times_of, perp_dot_of}
use Rattle.point.specs.Sides.{magnitude_of, side_of, same_side_of, between_of}

-- ---- NaN

-- 01, Geometry: "NaN is Right."
pub side_nan : (p : Point) (line : Segment) → perp_dot_of (minus_of line.1 line.0) (minus_of p line.0) ≡ nan → side_of p line ≡ Right
unfolding side_of magnitude_of lt of_bits
side_nan p line e = rw e

-- nothing is at most NaN
pub le_nan : (x : Float) → le x nan ≡ false
unfolding le lt eq
le_nan nan = refl
le_nan (inf s) = refl
le_nan (fin s m e) = refl

-- and it is in no range
pub between_nan : (a b : Float) → between_of nan a b ≡ false
unfolding between_of
between_nan a b = rw le_nan

-- ---- sides

-- == on sides holds of each side and itself, and of no two others
pub same_side_same : (a b : EdgeSide) → same_side_of a b ≡ true ↔ a ≡ b
unfolding same_side_of
same_side_same Left Left = (λ e. refl, λ e. refl)
same_side_same Left Right = (λ e. cc, λ e. cc)
same_side_same Left Edge = (λ e. cc, λ e. cc)
same_side_same Right Left = (λ e. cc, λ e. cc)
same_side_same Right Right = (λ e. refl, λ e. refl)
same_side_same Right Edge = (λ e. cc, λ e. cc)
same_side_same Edge Left = (λ e. cc, λ e. cc)
same_side_same Edge Right = (λ e. cc, λ e. cc)
same_side_same Edge Edge = (λ e. refl, λ e. refl)

-- ---- magnitude

-- Rust's f32::abs: the sign taken off.
unfoldable pub abs : Float → Float
abs nan = nan
abs (inf s) = inf false
abs (fin s m e) = fin false m e

up_positive : (e : ℤ) → 0 < up e
up_positive (pos k) = pow_pos k
up_positive (negsuc k) = omega arith

-- no comparison knows -0.0 from 0.0
zero_below : (e : ℤ) (y : Float) → lt (fin true 0 e) y ≡ lt (fin false 0 e) y
unfolding lt
zero_below e nan = refl
zero_below e (inf t) = refl
zero_below e (fin false n d) = simp (zero-mul, zero-add)
zero_below e (fin true n d) = simp zero-mul (le-ltb (n * up d * down e) 0 (omega arith))

none_below : (m : ℕ) (e : ℤ) → lt (fin false m e) (of_bits binary32 0) ≡ false
unfolding lt of_bits
none_below m e = simp zero-mul (le-ltb (m * up e * down (pos 0)) 0 (omega arith))

zero_none_below : (e : ℤ) → lt (fin true 0 e) (of_bits binary32 0) ≡ false
zero_none_below e = zero_below e (of_bits binary32 0) ∙ none_below 0 e

negative_below : (m : ℕ) (e : ℤ) → lt (fin true (suc m) e) (of_bits binary32 0) ≡ true
unfolding lt of_bits
negative_below m e =
    let h : 0 < suc m * up e = mul-pos (zero-lt-suc m) (up_positive e) in
    lt-ltb 0 (suc m * up e * down (pos 0) + 0 * up (pos 0) * down e) (omega arith)

-- what is below a bound by the code's magnitude is so by Rust's, and the other way round
pub magnitude_below : (x y : Float) → lt (magnitude_of x) y ≡ lt (abs x) y
unfolding magnitude_of abs neg lt of_bits
magnitude_below nan y = refl
magnitude_below (inf false) y = refl
magnitude_below (inf true) y = refl
magnitude_below (fin false m e) y = rw (none_below m e)
magnitude_below (fin true zero e) y = rw (zero_none_below e) (zero_below e y)
magnitude_below (fin true (suc m) e) y = rw (negative_below m e)

-- ---- products

unlike_comm : (s t : Bool) → unlike s t ≡ unlike t s
unlike_comm false false = refl
unlike_comm false true = refl
unlike_comm true false = refl
unlike_comm true true = refl

-- a product does not know which operand stood first
pub mul_turned : (f : Format) (x y : Float) → mul f x y ≡ mul f y x
unfolding mul
mul_turned f nan nan = refl
mul_turned f nan (inf t) = refl
mul_turned f nan (fin t n d) = refl
mul_turned f (inf s) nan = refl
mul_turned f (inf s) (inf t) = rw (unlike_comm s t)
mul_turned f (inf s) (fin t n d) = rw (unlike_comm s t)
mul_turned f (fin s m e) nan = refl
mul_turned f (fin s m e) (inf t) = rw (unlike_comm s t)
mul_turned f (fin s m e) (fin t n d) = rw (unlike_comm s t, mul_comm (m * up e) (n * up d), mul_comm (down e) (down d))

-- Rust's `2.0 * v` and `v * 2.0` are the same point
pub times_turned : (p : Point) (by : Float) → times_of p by ≡ record { x = mul binary32 by p.x; y = mul binary32 by p.y }
unfolding times_of
times_turned p by = rw (mul_turned binary32 p.x by, mul_turned binary32 p.y by)
