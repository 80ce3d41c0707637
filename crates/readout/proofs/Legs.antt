-- A leg from a root is as long as one from a root that is equal by ==: of the f32s only the two zeros are equal and not the same, and a difference is
-- squared. Rests on the crate float's `eq_same`. Assumes nothing.
use Prim.Native.Nat.{ℕ, zero, suc, ◌+◌, ◌-◌, ◌*◌, ◌/◌, ◌%◌, ◌^◌, compare}
use native.Mathlib.Omega.{arith}
use mathlib.Core.Path.{◌≡◌, refl, sym, ap, ◌∙◌}
use mathlib.Core.Bool.{Bool, true, false, cond, not, ◌&&◌, beq}
use mathlib.Core.Logic.{⊎_elim}
use mathlib.Core.List.{List, [], ◌∷◌}
use borrow.Author.Tests.{ltb-false}
use lib.Dec.{T, ltb}
use lib.IntN.{ℤ, pos}
use lib.Ieee.{Float, nan, inf, fin, binary32, up, down, odd, units, round, sum, add, neg, sub, mul, eq, fits, low, prec, emax, size, nearest}
use Rattle.float.proofs.Tests.{and_true}
use Rattle.float.proofs.Order.{eq_same}
use Rattle.point.specs.declared.Point.{Point}
use Rattle.point.specs.Point.{same_of, minus_of, dot_of, distance_of}
use Rattle.point.specs.Point.{length_of as point_length}
use Rattle.route.specs.Step.{HeldPoint}
use Rattle.readout.specs.Points.{length_from}

-- ---- a square knows no sign

unfoldable square : Float → Float
square x = mul binary32 x x

square_fin : (s t : Bool) (m : ℕ) (e : ℤ) → square (fin s m e) ≡ square (fin t m e)
unfolding square mul
square_fin true true m e = refl
square_fin true false m e = refl
square_fin false true m e = refl
square_fin false false m e = refl

square_inf : (s t : Bool) → square (inf s) ≡ square (inf t)
unfolding square mul
square_inf true true = refl
square_inf true false = refl
square_inf false true = refl
square_inf false false = refl

square_odd : (d q k l : ℕ) (s t : Bool) → square (odd d s q k l) ≡ square (odd d t q k l)
unfolding odd
square_odd d zero k l s t = square_fin s t 0 (pos 0)
square_odd d (suc q) k l s t = square_fin s t _ _

square_units_lem : (q k : ℕ) (s t : Bool) → square (units binary32 s q k) ≡ square (units binary32 t q k)
unfolding units
square_units_lem q k s t = go (ltb (q * 2 ^ k) (2 ^ (low binary32 + suc (emax binary32))))
  where
    go : (b : Bool)
        → square (cond b (odd (suc (prec binary32)) s q k (low binary32)) (inf s))
        ≡ square (cond b (odd (suc (prec binary32)) t q k (low binary32)) (inf t))
    go true = square_odd (suc (prec binary32)) q k (low binary32) s t
    go false = square_inf s t

square_round : (num den : ℕ) (s t : Bool) → square (round binary32 s num den) ≡ square (round binary32 t num den)
unfolding round
square_round num den s t =
    let n = num * 2 ^ low binary32 in
    let k = size (n / den) - prec binary32 in
    let u = den * 2 ^ k in
    square_units_lem (nearest (n / u) (compare (n % u * 2) u)) k s t

-- ---- a difference from a zero

square_sum : (s t : Bool) (b c : ℕ) → square (sum binary32 s 0 t b c) ≡ square (round binary32 true b c)
unfolding sum
square_sum s t b c = go (beq s t) (ltb 0 b) refl
  where
    go : (x y : Bool) → ltb 0 b ≡ y
        → square (cond x (round binary32 s (0 + b) c) (cond y (round binary32 t (b - 0) c) (round binary32 (s && ltb b 0) (0 - b) c)))
        ≡ square (round binary32 true b c)
    go true y e =
        let n : 0 + b ≡ b = omega arith in
        ap (λ (m : ℕ). square (round binary32 s m c)) n ∙ square_round b c s true
    go false true e =
        let n : b - 0 ≡ b = omega arith in
        ap (λ (m : ℕ). square (round binary32 t m c)) n ∙ square_round b c t true
    go false false e =
        let n : 0 - b ≡ b = omega (arith, ltb-false 0 b e) in
        ap (λ (m : ℕ). square (round binary32 (s && ltb b 0) m c)) n ∙ square_round b c (s && ltb b 0) true

from_zero : (s t : Bool) (p : Float) → square (sub binary32 (fin s 0 (pos 0)) p) ≡ square (sub binary32 (fin t 0 (pos 0)) p)
unfolding sub add neg
from_zero s t nan = refl
from_zero s t (inf u) = refl
from_zero s t (fin u n d) =
    let z : 0 * up (pos 0) * down d ≡ 0 = omega arith in
    let b = n * up d * down (pos 0) in
    let c = down (pos 0) * down d in
    ap (λ (a : ℕ). square (sum binary32 s a (not u) b c)) z
    ∙ square_sum s (not u) b c
    ∙ sym (square_sum t (not u) b c)
    ∙ ap (λ (a : ℕ). square (sum binary32 t a (not u) b c)) (sym z)

same_square : (x y p : Float) → T (fits binary32 x) → T (fits binary32 y) → eq x y ≡ true → square (sub binary32 x p) ≡ square (sub binary32 y p)
same_square x y p h k e =
    ⊎_elim
    (λ d. ap (λ (z : Float). square (sub binary32 z p)) d)
    (λ z.
    ap (λ (v : Float). square (sub binary32 v p)) z.0.1
    ∙ from_zero z.0.0 z.1.0 p
    ∙ ap (λ (v : Float). square (sub binary32 v p)) (sym z.1.1))
    (eq_same x y h k e)

-- ---- legs

pub same_leg : (a b p : Point) → HeldPoint a → HeldPoint b → same_of a b ≡ true → distance_of a p ≡ distance_of b p
unfolding same_of distance_of point_length minus_of dot_of square
same_leg a b p h k e =
    let t = and_true (eq a.x b.x) (eq a.y b.y) e in
    rw (same_square a.x b.x p.x h.x_held k.x_held t.0, same_square a.y b.y p.y h.y_held k.y_held t.1)

-- a sum from one root is the sum from the other
pub same_sum : (total : Float) (a b : Point) (points : List Point) → HeldPoint a → HeldPoint b → same_of a b ≡ true
    → length_from total a points ≡ length_from total b points
unfolding length_from
same_sum total a b [] h k e = refl
same_sum total a b (p ∷ points) h k e = ap (λ (d : Float). length_from (add binary32 total d) p points) (same_leg a b p h k e)
