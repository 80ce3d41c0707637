-- Finite values over a common denominator compare as their numerators do, with their signs. `Equals x a c` of the kit says that x is finite and of
-- magnitude a / c. Rests on the definition of `lt` and `eq` alone. Assumes nothing.
use Prim.Native.Nat.{ℕ, ◌+◌, ◌*◌, ◌<◌}
use mathlib.Core.Path.{◌≡◌, refl, sym, ap, ap₂, ◌∙◌}
use mathlib.Core.Bool.{Bool, true, false, ◌&&◌, ◌||◌, beq}
use native.Mathlib.Nat.{add-mul, zero-mul, mul-pos, mul_comm, mul_right_comm, mul_assoc, mul-lt-mul_of_pos_right, lt_of_mul-lt-mul_right}
use native.Mathlib.Nat.{eq_of_mul-eq-mul_right}
use lib.Dec.{ltb, eqb}
use lib.IntN.{ℤ}
use lib.Ieee.{fin, up, down, below, level, lt, eq}
use lib.Ieee.Fits.{down_pos}
use lib.Ieee.Digits.{Equals}
use Rattle.float.proofs.Tests.{same_ltb, same_eqb}

-- ---- a positive factor on both sides

ltb_scale : (a b c : ℕ) → 0 < c → ltb a b ≡ ltb (a * c) (b * c)
ltb_scale a b c p = same_ltb a b (a * c) (b * c) (λ h. mul-lt-mul_of_pos_right h p) (λ h. lt_of_mul-lt-mul_right c h)

eqb_scale : (a b c : ℕ) → 0 < c → eqb a b ≡ eqb (a * c) (b * c)
eqb_scale a b c p = same_eqb a b (a * c) (b * c) (λ h. ap (λ (x : ℕ). x * c) h) (λ h. eq_of_mul-eq-mul_right c p a b h)

-- ---- a / d and b / d against u / l and v / l, the same two fractions

module _ (a b u v l d : ℕ) (L : 0 < l) (D : 0 < d) (A : a * l ≡ u * d) (B : b * l ≡ v * d) where
  ltb_same : ltb a b ≡ ltb u v
  ltb_same = ltb_scale a b l L ∙ ap₂ ltb A B ∙ sym (ltb_scale u v d D)

  eqb_same : eqb a b ≡ eqb u v
  eqb_same = eqb_scale a b l L ∙ ap₂ eqb A B ∙ sym (eqb_scale u v d D)

module _ (a b u v l d : ℕ) (L : 0 < l) (D : 0 < d) (A : a * l ≡ u * d) (B : b * l ≡ v * d) where
  zeros : 0 * l ≡ 0 * d
  zeros = zero-mul l ∙ sym (zero-mul d)

  below_same : (s t : Bool) → below s a t b ≡ below s u t v
  below_same false false = ltb_same a b u v l d L D A B
  below_same false true = refl
  below_same true false = ltb_same 0 (a + b) 0 (u + v) l d L D zeros (add-mul a b l ∙ ap₂ ◌+◌ A B ∙ sym (add-mul u v d))
  below_same true true = ltb_same b a v u l d L D B A

  level_same : (s t : Bool) → level s a t b ≡ level s u t v
  level_same s t = ap₂ (λ (x y : Bool). x && (beq s t || y)) (eqb_same a b u v l d L D A B) (eqb_same a 0 u 0 l d L D A zeros)

-- ---- the values

module _ (s : Bool) (m : ℕ) (e : ℤ) (t : Bool) (n : ℕ) (d : ℤ) (u v l : ℕ) (L : 0 < l) (p : Equals (fin s m e) u l) (q : Equals (fin t n d) v l) where
  left : m * up e * down d * l ≡ u * (down e * down d)
  left = mul_right_comm (m * up e) (down d) l ∙ ap (λ (x : ℕ). x * down d) p ∙ mul_assoc u (down e) (down d)

  right : n * up d * down e * l ≡ v * (down e * down d)
  right =
      mul_right_comm (n * up d) (down e) l ∙ ap (λ (x : ℕ). x * down e) q ∙ mul_assoc v (down d) (down e)
      ∙ ap (λ (x : ℕ). v * x) (mul_comm (down d) (down e))

  pub lt_over : lt (fin s m e) (fin t n d) ≡ below s u t v
  unfolding lt
  lt_over = below_same (m * up e * down d) (n * up d * down e) u v l (down e * down d) L (mul-pos (down_pos e) (down_pos d)) left right s t

  pub eq_over : eq (fin s m e) (fin t n d) ≡ level s u t v
  unfolding eq
  eq_over = level_same (m * up e * down d) (n * up d * down e) u v l (down e * down d) L (mul-pos (down_pos e) (down_pos d)) left right s t
