-- The order of the floats, over any `Float`, in a format or not. NaN is before nothing and equals nothing; all others stand in one line, the two zeros
-- at one place. A law asks that a value is no NaN only where no comparison that came out true shows it. Each law is that law of ℕ, through the ranks.
-- Assumes nothing.
use Prim.Native.Nat.{ℕ}
use mathlib.Core.Path.{◌≡◌, refl, sym, ap, ap₂, ◌∙◌, subst}
use mathlib.Core.Bool.{Bool, true, false, not, ◌||◌, beq}
use mathlib.Core.Logic.{◌⊎◌, inl, inr, ⊎_elim}
use native.Mathlib.Omega.{arith}
use borrow.Author.Tests.{eqb-true}
use lib.IntN.{ℤ, pos}
use lib.Dec.{T, eqb}
use lib.Ieee.{Float, nan, inf, fin, binary32, fits, is_nan, lt, le, eq, ne}
use Rattle.float.proofs.Nan.{lt_no_nan, eq_no_nan, le_no_nan}
use Rattle.float.specs.Units.{units_of}
use Rattle.float.proofs.Tests.{untrue, failed, same_test, and_true, or_true}
use Rattle.float.proofs.Units.{units_tell, units_zero, eq_by_signed_units}
use Rattle.float.proofs.Rank.{ranks, before, not_before, equal, at_most, is_before, is_not_before, is_equal, is_not_equal, is_at_most}

-- ---- lt

pub lt_asymmetric : (x y : Float) → lt x y ≡ true → lt y x ≡ false
lt_asymmetric x y h =
    let n = lt_no_nan x y h in
    let r = ranks x y y n.0 n.1 n.1 in
    is_not_before r.yx (omega (arith, before r.xy h))

pub lt_irreflexive : (x : Float) → lt x x ≡ false
lt_irreflexive x = failed (lt x x) (λ h. untrue (sym (lt_asymmetric x x h) ∙ h))

pub lt_transitive : (x y z : Float) → lt x y ≡ true → lt y z ≡ true → lt x z ≡ true
lt_transitive x y z h k =
    let n = lt_no_nan x y h in
    let r = ranks x y z n.0 n.1 (lt_no_nan y z k).1 in
    is_before r.xz (omega (arith, before r.xy h, before r.yz k))

pub lt_trichotomy : (x y : Float) → T (not (is_nan x)) → T (not (is_nan y)) → lt x y ≡ false → lt y x ≡ false → eq x y ≡ true
lt_trichotomy x y n o h k =
    let r = ranks x y y n o o in
    is_equal r.xy (omega (arith, not_before r.xy h, not_before r.yx k))

pub lt_differs : (x y : Float) → lt x y ≡ true → eq x y ≡ false
lt_differs x y h =
    let n = lt_no_nan x y h in
    let r = ranks x y y n.0 n.1 n.1 in
    is_not_equal r.xy (omega (arith, before r.xy h))

-- ---- eq

pub eq_reflexive : (x : Float) → T (not (is_nan x)) → eq x x ≡ true
eq_reflexive x n = lt_trichotomy x x n n (lt_irreflexive x) (lt_irreflexive x)

eq_turns : (x y : Float) → eq x y ≡ true → eq y x ≡ true
eq_turns x y h =
    let n = eq_no_nan x y h in
    let r = ranks x y y n.0 n.1 n.1 in
    is_equal r.yx (sym (equal r.xy h))

pub eq_symmetric : (x y : Float) → eq x y ≡ eq y x
eq_symmetric x y = same_test (eq x y) (eq y x) (eq_turns x y) (eq_turns y x)

pub eq_transitive : (x y z : Float) → eq x y ≡ true → eq y z ≡ true → eq x z ≡ true
eq_transitive x y z h k =
    let n = eq_no_nan x y h in
    let r = ranks x y z n.0 n.1 (eq_no_nan y z k).1 in
    is_equal r.xz (equal r.xy h ∙ equal r.yz k)

pub ne_not_eq : (x y : Float) → ne x y ≡ not (eq x y)
unfolding ne
ne_not_eq x y = refl

-- ---- no comparison tells equal values apart

pub lt_respects_left : (x y z : Float) → eq x y ≡ true → lt x z ≡ lt y z
lt_respects_left x y z h = same_test (lt x z) (lt y z) (moves x y h) (moves y x (eq_turns x y h))
  where
    moves : (x y : Float) → eq x y ≡ true → lt x z ≡ true → lt y z ≡ true
    moves x y h k =
        let n = eq_no_nan x y h in
        let r = ranks x y z n.0 n.1 (lt_no_nan x z k).1 in
        is_before r.yz (omega (arith, equal r.xy h, before r.xz k))

pub lt_respects_right : (x y z : Float) → eq x y ≡ true → lt z x ≡ lt z y
lt_respects_right x y z h = same_test (lt z x) (lt z y) (moves x y h) (moves y x (eq_turns x y h))
  where
    moves : (x y : Float) → eq x y ≡ true → lt z x ≡ true → lt z y ≡ true
    moves x y h k =
        let n = eq_no_nan x y h in
        let r = ranks z x y (lt_no_nan z x k).0 n.0 n.1 in
        is_before r.xz (omega (arith, equal r.yz h, before r.xy k))

pub eq_respects_left : (x y z : Float) → eq x y ≡ true → eq x z ≡ eq y z
eq_respects_left x y z h = same_test (eq x z) (eq y z) (eq_transitive y x z (eq_turns x y h)) (eq_transitive x y z h)

pub eq_respects_right : (x y z : Float) → eq x y ≡ true → eq z x ≡ eq z y
eq_respects_right x y z h = eq_symmetric z x ∙ eq_respects_left x y z h ∙ eq_symmetric y z

pub le_respects_left : (x y z : Float) → eq x y ≡ true → le x z ≡ le y z
unfolding le
le_respects_left x y z h = ap₂ ◌||◌ (lt_respects_left x y z h) (eq_respects_left x y z h)

pub le_respects_right : (x y z : Float) → eq x y ≡ true → le z x ≡ le z y
unfolding le
le_respects_right x y z h = ap₂ ◌||◌ (lt_respects_right x y z h) (eq_respects_right x y z h)

-- ---- le: lt or eq, and off NaN not lt the other way

pub lt_is_le : (x y : Float) → lt x y ≡ true → le x y ≡ true
unfolding le
lt_is_le x y h = rw h

pub eq_is_le : (x y : Float) → eq x y ≡ true → le x y ≡ true
eq_is_le x y h =
    let n = eq_no_nan x y h in
    let r = ranks x y y n.0 n.1 n.1 in
    is_at_most r.xy (omega (arith, equal r.xy h))

pub le_of_not_lt : (x y : Float) → T (not (is_nan x)) → T (not (is_nan y)) → lt y x ≡ false → le x y ≡ true
le_of_not_lt x y n o h =
    let r = ranks x y y n o o in
    is_at_most r.xy (not_before r.yx h)

pub not_lt_of_le : (x y : Float) → le x y ≡ true → lt y x ≡ false
not_lt_of_le x y h =
    let n = le_no_nan x y h in
    let r = ranks x y y n.0 n.1 n.1 in
    is_not_before r.yx (at_most r.xy h)

pub le_reflexive : (x : Float) → T (not (is_nan x)) → le x x ≡ true
le_reflexive x n = eq_is_le x x (eq_reflexive x n)

pub le_antisymmetric : (x y : Float) → le x y ≡ true → le y x ≡ true → eq x y ≡ true
le_antisymmetric x y h k =
    let n = le_no_nan x y h in
    lt_trichotomy x y n.0 n.1 (not_lt_of_le y x k) (not_lt_of_le x y h)

pub le_transitive : (x y z : Float) → le x y ≡ true → le y z ≡ true → le x z ≡ true
le_transitive x y z h k =
    let n = le_no_nan x y h in
    let r = ranks x y z n.0 n.1 (le_no_nan y z k).1 in
    is_at_most r.xz (omega (arith, at_most r.xy h, at_most r.yz k))

pub lt_le_transitive : (x y z : Float) → lt x y ≡ true → le y z ≡ true → lt x z ≡ true
lt_le_transitive x y z h k =
    let n = lt_no_nan x y h in
    let r = ranks x y z n.0 n.1 (le_no_nan y z k).1 in
    is_before r.xz (omega (arith, before r.xy h, at_most r.yz k))

pub le_lt_transitive : (x y z : Float) → le x y ≡ true → lt y z ≡ true → lt x z ≡ true
le_lt_transitive x y z h k =
    let n = le_no_nan x y h in
    let r = ranks x y z n.0 n.1 (lt_no_nan y z k).1 in
    is_before r.xz (omega (arith, at_most r.xy h, before r.yz k))

-- ---- of the f32s only the two zeros are equal and not the same

abbrev pub IsZero : Float → Type 0
IsZero x = (s : Bool) × (x ≡ fin s 0 (pos 0))

same_sign : (s t : Bool) → beq s t ≡ true → s ≡ t
same_sign true true h = refl
same_sign true false h = sym h
same_sign false true h = h
same_sign false false h = refl

fin_same : (s : Bool) (m : ℕ) (e : ℤ) (t : Bool) (n : ℕ) (d : ℤ) → T (fits binary32 (fin s m e)) → T (fits binary32 (fin t n d))
    → eq (fin s m e) (fin t n d) ≡ true → (fin s m e ≡ fin t n d) ⊎ (IsZero (fin s m e) × IsZero (fin t n d))
fin_same s m e t n d p q h =
    let u = units_of (fin s m e) in
    let v = units_of (fin t n d) in
    let z = and_true (eqb u v) (beq s t || eqb u 0) (sym (eq_by_signed_units s m e t n d p q) ∙ h) in
    let o : u ≡ v = eqb-true u v z.0 in
    ⊎_elim
    (λ g. inl (alike (same_sign s t g) o))
    (λ g. let w : u ≡ 0 = eqb-true u 0 g in inr ((s, units_zero s m e p w), (t, units_zero t n d q (sym o ∙ w))))
    (or_true (beq s t) (eqb u 0) z.1)
  where
    alike : s ≡ t → units_of (fin s m e) ≡ units_of (fin t n d) → fin s m e ≡ fin t n d
    alike g o =
        subst (λ (t : Bool). T (fits binary32 (fin t n d)) → units_of (fin s m e) ≡ units_of (fin t n d) → fin s m e ≡ fin t n d) g
        (units_tell s m e n d p) q o

pub eq_same : (x y : Float) → T (fits binary32 x) → T (fits binary32 y) → eq x y ≡ true → (x ≡ y) ⊎ (IsZero x × IsZero y)
unfolding eq
eq_same nan y p q h = untrue h
eq_same (inf s) nan p q h = untrue h
eq_same (inf s) (inf t) p q h = inl (ap inf (same_sign s t h))
eq_same (inf s) (fin t n d) p q h = untrue h
eq_same (fin s m e) nan p q h = untrue h
eq_same (fin s m e) (inf t) p q h = untrue h
eq_same (fin s m e) (fin t n d) p q h = fin_same s m e t n d p q h
