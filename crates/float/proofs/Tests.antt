-- Bool tests: two that pass together are equal, and what a passed test says. Assumes nothing.
use Prim.Native.Nat.{ℕ, ◌≤◌, ◌<◌}
use mathlib.Core.Path.{◌≡◌, refl, sym, subst}
use mathlib.Core.Bool.{Bool, true, false, ◌&&◌, ◌||◌}
use mathlib.Core.Logic.{◌⊎◌, inl, inr, ⊎_elim}
use native.Mathlib.Nat.{eq-or-lt_of_le}
use native.Mathlib.Omega.{arith}
use borrow.Author.Tests.{ltb-true, leb-true, eqb-true, lt-ltb, le-leb, eq-eqb}
use lib.Dec.{T, leb, ltb, eqb}

-- ---- any tests

pub untrue : {A : Type 0} → false ≡ true → A
untrue e = absurd (subst T (sym e) tt)

pub failed : (a : Bool) → (a ≡ true → ⊥) → a ≡ false
failed true f = absurd (f refl)
failed false f = refl

pub same_test : (a b : Bool) → (a ≡ true → b ≡ true) → (b ≡ true → a ≡ true) → a ≡ b
same_test true b p q = sym (p refl)
same_test false true p q = q refl
same_test false false p q = refl

pub and_true : (a b : Bool) → (a && b) ≡ true → (a ≡ true) × (b ≡ true)
and_true true b h = (refl, h)
and_true false b h = untrue h

pub or_true : (a b : Bool) → (a || b) ≡ true → (a ≡ true) ⊎ (b ≡ true)
or_true true b h = inl refl
or_true false b h = inr h

-- ---- tests on numbers

pub same_ltb : (a b c d : ℕ) → (a < b → c < d) → (c < d → a < b) → ltb a b ≡ ltb c d
same_ltb a b c d p q = same_test (ltb a b) (ltb c d) (λ h. lt-ltb c d (p (ltb-true a b h))) (λ h. lt-ltb a b (q (ltb-true c d h)))

pub same_eqb : (a b c d : ℕ) → (a ≡ b → c ≡ d) → (c ≡ d → a ≡ b) → eqb a b ≡ eqb c d
same_eqb a b c d p q = same_test (eqb a b) (eqb c d) (λ h. eq-eqb c d (p (eqb-true a b h))) (λ h. eq-eqb a b (q (eqb-true c d h)))

or_yes : (a : Bool) → (a || true) ≡ true
or_yes true = refl
or_yes false = refl

pub lt_or_eq_leb : (a b : ℕ) → (ltb a b || eqb a b) ≡ leb a b
lt_or_eq_leb a b = same_test (ltb a b || eqb a b) (leb a b) (λ h. le-leb a b (there h)) (λ h. back (leb-true a b h))
  where
    there : (ltb a b || eqb a b) ≡ true → a ≤ b
    there h = ⊎_elim (λ p. omega (arith, ltb-true a b p)) (λ p. omega (arith, eqb-true a b p)) (or_true (ltb a b) (eqb a b) h)

    back : a ≤ b → (ltb a b || eqb a b) ≡ true
    back h = elim (eq-or-lt_of_le h) [ inl p ↦ rw (eq-eqb a b p) (or_yes (ltb a b)) | inr p ↦ rw (lt-ltb a b p) ]
