-- Which patterns and which values are NaN, and that a comparison that came out true had none on either side. Assumes nothing.
use Prim.Native.Nat.{ℕ, ◌*◌, ◌%◌, ◌≤◌, ◌<◌}
use mathlib.Core.Path.{◌≡◌, refl, sym, ◌∙◌, subst}
use mathlib.Core.Bool.{Bool, true, false, not}
use mathlib.Core.Logic.{◌⊎◌, ⊎_elim}
use borrow.Author.Tests.{lt-ltb, le-ltb, eq-eqb}
use lib.Dec.{T}
use lib.Ieee.{Float, nan, inf, fin, up, down, binary32, of_bits, to_bits, nan_bits, is_nan, lt, le, eq, ne, div}
use lib.Ieee.Bits.{nan_bits_is, nan_bits_above}
use lib.Ieee.Compare.{differs_from_itself}
use Rattle.float.proofs.Tests.{untrue, or_true}

-- ---- patterns

pub is_nan_lem : (x : Float) → is_nan x ≡ true → x ≡ nan
unfolding is_nan
is_nan_lem nan e = refl
is_nan_lem (inf s) e = absurd (subst (λ (b : Bool). T (not b)) e tt)
is_nan_lem (fin s m d) e = absurd (subst (λ (b : Bool). T (not b)) e tt)

pub nan_pattern : (b : ℕ) → 0x7F800000 < b % 0x80000000 → of_bits binary32 b ≡ nan
nan_pattern b h = is_nan_lem (of_bits binary32 b) (sym (nan_bits_is binary32 b) ∙ nan_bits_above binary32 b ∙ lt-ltb _ _ h)

pub other_pattern : (b : ℕ) → b % 0x80000000 ≤ 0x7F800000 → T (not (nan_bits binary32 b))
other_pattern b h = subst (λ (t : Bool). T (not t)) (sym (nan_bits_above binary32 b ∙ le-ltb _ _ h)) tt

-- 0.0 / 0.0 is what such a pattern stands for
pub zeros_nan : (b : ℕ) → 0x7F800000 < b % 0x80000000 → of_bits binary32 b ≡ div binary32 (of_bits binary32 0) (of_bits binary32 0)
unfolding div of_bits
zeros_nan b h = nan_pattern b h

-- ---- values that are told apart from themselves

pub differs_is_nan : (x : Float) → ne x x ≡ true → x ≡ nan
differs_is_nan x e = differs_from_itself x (subst T (sym e) tt)

-- and the definition writes 0x7FC00000 for it
pub nan_written : (x : Float) → ne x x ≡ true → to_bits binary32 x ≡ 0x7FC00000
unfolding to_bits
nan_written x e = rw (differs_is_nan x e) refl

pub same_is_no_nan : (x : Float) → ne x x ≡ false → T (not (is_nan x))
unfolding ne is_nan
same_is_no_nan nan e = absurd (subst T e tt)
same_is_no_nan (inf s) e = tt
same_is_no_nan (fin s m d) e = tt

pub no_nan_is_same : (x : Float) → T (not (is_nan x)) → ne x x ≡ false
unfolding ne is_nan
no_nan_is_same nan h = absurd h
no_nan_is_same (inf true) h = refl
no_nan_is_same (inf false) h = refl
no_nan_is_same (fin true m d) h = rw (eq-eqb (m * up d * down d) _ refl)
no_nan_is_same (fin false m d) h = rw (eq-eqb (m * up d * down d) _ refl)

-- ---- a comparison that came out true

pub lt_no_nan : (x y : Float) → lt x y ≡ true → T (not (is_nan x)) × T (not (is_nan y))
unfolding lt is_nan
lt_no_nan nan y e = untrue e
lt_no_nan (inf s) nan e = untrue e
lt_no_nan (inf s) (inf t) e = (tt, tt)
lt_no_nan (inf s) (fin t n d) e = (tt, tt)
lt_no_nan (fin s m d) nan e = untrue e
lt_no_nan (fin s m d) (inf t) e = (tt, tt)
lt_no_nan (fin s m d) (fin t n c) e = (tt, tt)

pub eq_no_nan : (x y : Float) → eq x y ≡ true → T (not (is_nan x)) × T (not (is_nan y))
unfolding eq is_nan
eq_no_nan nan y e = untrue e
eq_no_nan (inf s) nan e = untrue e
eq_no_nan (inf s) (inf t) e = (tt, tt)
eq_no_nan (inf s) (fin t n d) e = untrue e
eq_no_nan (fin s m d) nan e = untrue e
eq_no_nan (fin s m d) (inf t) e = untrue e
eq_no_nan (fin s m d) (fin t n c) e = (tt, tt)

pub lt_or_eq : (x y : Float) → le x y ≡ true → (lt x y ≡ true) ⊎ (eq x y ≡ true)
unfolding le
lt_or_eq x y e = or_true (lt x y) (eq x y) e

pub le_no_nan : (x y : Float) → le x y ≡ true → T (not (is_nan x)) × T (not (is_nan y))
le_no_nan x y e = ⊎_elim (lt_no_nan x y) (eq_no_nan x y) (lt_or_eq x y e)
