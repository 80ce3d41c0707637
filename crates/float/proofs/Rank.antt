-- Any three floats but NaN have ranks: natural numbers that compare as they do. So a law of the order of ℕ is a law of the floats, infinities and
-- both zeros included. The finite ones are written over a common denominator 1 / l, and moved up by a number k above all of them, where the infinities
-- stand. Assumes nothing.
use Prim.Native.Nat.{ℕ, suc, ◌+◌, ◌-◌, ◌*◌, ◌≤◌, ◌<◌}
use mathlib.Core.Path.{◌≡◌, refl, sym, ap, ap₂, ◌∙◌}
use mathlib.Core.Bool.{Bool, true, false, not, ◌&&◌, ◌||◌, beq, cond}
use native.Mathlib.Omega.{arith}
use native.Mathlib.Nat.{mul-pos}
use borrow.Author.Tests.{ltb-true, ltb-false, leb-true, eqb-true, lt-ltb, le-ltb, le-leb, eq-eqb, ne_eqb}
use lib.Dec.{T, ltb, leb, eqb}
use lib.Ieee.{Float, nan, inf, fin, up, down, below, level, is_nan, lt, le, eq}
use lib.Ieee.Digits.{Equals}
use lib.Ieee.Positive.{num, den, den_pos}
use Rattle.float.proofs.Tests.{same_test, same_ltb, same_eqb, and_true, lt_or_eq_leb}
use Rattle.float.proofs.Fraction.{lt_over, eq_over}

-- ---- ranks of signed numbers up to k

abbrev signed : ℕ → Bool → ℕ → ℕ
signed k s u = cond s (k - u) (k + u)

module _ (k u v : ℕ) (U : u ≤ k) (W : v ≤ k) where
  below_signed : (s t : Bool) → below s u t v ≡ ltb (signed k s u) (signed k t v)
  below_signed false false = same_ltb u v (k + u) (k + v) (omega arith) (omega arith)
  below_signed false true = sym (le-ltb (k + u) (k - v) (omega arith))
  below_signed true false = same_ltb 0 (u + v) (k - u) (k + v) (omega arith) (omega arith)
  below_signed true true = same_ltb v u (k - u) (k - v) (omega arith) (omega arith)

  both_zero : (a : ℕ) (b : ℕ) → (u ≡ v → u ≡ 0 → a ≡ b) → (a ≡ b → (u ≡ v) × (u ≡ 0)) → (eqb u v && eqb u 0) ≡ eqb a b
  both_zero a b p q =
      same_test (eqb u v && eqb u 0) (eqb a b)
      (λ h. let z = and_true (eqb u v) (eqb u 0) h in eq-eqb a b (p (eqb-true u v z.0) (eqb-true u 0 z.1)))
      (λ h. let z = q (eqb-true a b h) in ap₂ ◌&&◌ (eq-eqb u v z.0) (eq-eqb u 0 z.1))

  and_yes : (a : Bool) → (a && true) ≡ a
  and_yes true = refl
  and_yes false = refl

  level_signed : (s t : Bool) → level s u t v ≡ eqb (signed k s u) (signed k t v)
  level_signed false false = and_yes (eqb u v) ∙ same_eqb u v (k + u) (k + v) (omega arith) (omega arith)
  level_signed false true = both_zero (k + u) (k - v) (omega arith) (omega arith)
  level_signed true false = both_zero (k - u) (k + v) (omega arith) (omega arith)
  level_signed true true = and_yes (eqb u v) ∙ same_eqb u v (k - u) (k - v) (omega arith) (omega arith)

-- ---- ranks of floats: the finite ones as numbers of 1 / l below k, and k for an infinity

module _ (k : ℕ) (K : 0 < k) where
  inf_inf : (s t : Bool) → (s && not t) ≡ ltb (signed k s k) (signed k t k)
  inf_inf true true = sym (le-ltb (k - k) (k - k) (omega arith))
  inf_inf true false = sym (lt-ltb (k - k) (k + k) (omega arith))
  inf_inf false true = sym (le-ltb (k + k) (k - k) (omega arith))
  inf_inf false false = sym (le-ltb (k + k) (k + k) (omega arith))

  inf_is_inf : (s t : Bool) → beq s t ≡ eqb (signed k s k) (signed k t k)
  inf_is_inf true true = sym (eq-eqb (k - k) (k - k) refl)
  inf_is_inf true false = sym (ne_eqb (k - k) (k + k) (omega arith))
  inf_is_inf false true = sym (ne_eqb (k + k) (k - k) (omega arith))
  inf_is_inf false false = sym (eq-eqb (k + k) (k + k) refl)

module _ (k u : ℕ) (U : u < k) where
  inf_fin : (s t : Bool) → s ≡ ltb (signed k s k) (signed k t u)
  inf_fin true true = sym (lt-ltb (k - k) (k - u) (omega arith))
  inf_fin true false = sym (lt-ltb (k - k) (k + u) (omega arith))
  inf_fin false true = sym (le-ltb (k + k) (k - u) (omega arith))
  inf_fin false false = sym (le-ltb (k + k) (k + u) (omega arith))

  fin_inf : (s t : Bool) → not t ≡ ltb (signed k s u) (signed k t k)
  fin_inf true true = sym (le-ltb (k - u) (k - k) (omega arith))
  fin_inf true false = sym (lt-ltb (k - u) (k + k) (omega arith))
  fin_inf false true = sym (le-ltb (k + u) (k - k) (omega arith))
  fin_inf false false = sym (lt-ltb (k + u) (k + k) (omega arith))

  inf_is_no_fin : (s t : Bool) → eqb (signed k s k) (signed k t u) ≡ false
  inf_is_no_fin true true = ne_eqb (k - k) (k - u) (omega arith)
  inf_is_no_fin true false = ne_eqb (k - k) (k + u) (omega arith)
  inf_is_no_fin false true = ne_eqb (k + k) (k - u) (omega arith)
  inf_is_no_fin false false = ne_eqb (k + k) (k + u) (omega arith)

abbrev Sized : ℕ → ℕ → Float → ℕ → Type 0
Sized l k nan u = ⊥
Sized l k (inf s) u = 0 < k
Sized l k (fin s m e) u = Equals (fin s m e) u l × (u < k)

abbrev rank : ℕ → Float → ℕ → ℕ
rank k nan u = 0
rank k (inf s) u = signed k s k
rank k (fin s m e) u = signed k s u

eqb_comm : (a b : ℕ) → eqb a b ≡ eqb b a
eqb_comm a b = same_eqb a b b a sym sym

module _ (l k : ℕ) (L : 0 < l) where
  lt_rank : (x y : Float) (u v : ℕ) → Sized l k x u → Sized l k y v → lt x y ≡ ltb (rank k x u) (rank k y v)
  unfolding lt
  lt_rank nan y u v p q = absurd p
  lt_rank (inf s) nan u v p q = absurd q
  lt_rank (inf s) (inf t) u v p q = inf_inf k p s t
  lt_rank (inf s) (fin t n d) u v p q = inf_fin k v q.1 s t
  lt_rank (fin s m e) nan u v p q = absurd q
  lt_rank (fin s m e) (inf t) u v p q = fin_inf k u p.1 s t
  lt_rank (fin s m e) (fin t n d) u v p q = lt_over s m e t n d u v l L p.0 q.0 ∙ below_signed k u v (omega arith) (omega arith) s t

  eq_rank : (x y : Float) (u v : ℕ) → Sized l k x u → Sized l k y v → eq x y ≡ eqb (rank k x u) (rank k y v)
  unfolding eq
  eq_rank nan y u v p q = absurd p
  eq_rank (inf s) nan u v p q = absurd q
  eq_rank (inf s) (inf t) u v p q = inf_is_inf k p s t
  eq_rank (inf s) (fin t n d) u v p q = sym (inf_is_no_fin k v q.1 s t)
  eq_rank (fin s m e) nan u v p q = absurd q
  eq_rank (fin s m e) (inf t) u v p q = sym (eqb_comm (signed k s u) (signed k t k) ∙ inf_is_no_fin k u p.1 t s)
  eq_rank (fin s m e) (fin t n d) u v p q = eq_over s m e t n d u v l L p.0 q.0 ∙ level_signed k u v (omega arith) (omega arith) s t

-- ---- x and y compare as a and b do

pub record Like (x y : Float) (a b : ℕ) : Type 0 where
  pub lt_like : lt x y ≡ ltb a b
  pub eq_like : eq x y ≡ eqb a b

module _ {x y : Float} {a b : ℕ} (r : Like x y a b) where
  pub before : lt x y ≡ true → a < b
  before h = ltb-true a b (sym r.lt_like ∙ h)

  pub not_before : lt x y ≡ false → b ≤ a
  not_before h = ltb-false a b (sym r.lt_like ∙ h)

  pub equal : eq x y ≡ true → a ≡ b
  equal h = eqb-true a b (sym r.eq_like ∙ h)

  pub is_before : a < b → lt x y ≡ true
  is_before h = r.lt_like ∙ lt-ltb a b h

  pub is_not_before : b ≤ a → lt x y ≡ false
  is_not_before h = r.lt_like ∙ le-ltb a b h

  pub is_equal : a ≡ b → eq x y ≡ true
  is_equal h = r.eq_like ∙ eq-eqb a b h

  pub is_not_equal : (a ≡ b → ⊥) → eq x y ≡ false
  is_not_equal h = r.eq_like ∙ ne_eqb a b h

  pub le_like : le x y ≡ leb a b
  unfolding le
  le_like = ap₂ ◌||◌ r.lt_like r.eq_like ∙ lt_or_eq_leb a b

  pub at_most : le x y ≡ true → a ≤ b
  at_most h = leb-true a b (sym le_like ∙ h)

  pub is_at_most : a ≤ b → le x y ≡ true
  is_at_most h = le_like ∙ le-leb a b h

-- ---- three floats, and for two of them the third is one of the two

pub record Ranks (x y z : Float) : Type 0 where
  pub a : ℕ
  pub b : ℕ
  pub c : ℕ
  pub xy : Like x y a b
  pub yx : Like y x b a
  pub yz : Like y z b c
  pub zy : Like z y c b
  pub xz : Like x z a c
  pub zx : Like z x c a

regroup : (a d c : ℕ) → a * (d * c) ≡ a * c * d
regroup a d c = omega arith

sized : (l k : ℕ) (x : Float) (c : ℕ) → T (not (is_nan x)) → den x * c ≡ l → num x * c < k → Sized l k x (num x * c)
unfolding is_nan
sized l k nan c n p q = n
sized l k (inf s) c n p q = omega arith
sized l k (fin s m e) c n p q = (ap (λ (x : ℕ). m * up e * x) (sym p) ∙ regroup (m * up e) (down e) c, q)

like : (l k : ℕ) → 0 < l → (x y : Float) (u v : ℕ) → Sized l k x u → Sized l k y v → Like x y (rank k x u) (rank k y v)
like l k L x y u v p q = record { lt_like = lt_rank l k L x y u v p q; eq_like = eq_rank l k L x y u v p q }

pub ranks : (x y z : Float) → T (not (is_nan x)) → T (not (is_nan y)) → T (not (is_nan z)) → Ranks x y z
ranks x y z nx ny nz =
    let l = den x * den y * den z in
    let u = num x * (den y * den z) in
    let v = num y * (den x * den z) in
    let w = num z * (den x * den y) in
    let k = suc (u + v + w) in
    let L : 0 < l = mul-pos (mul-pos (den_pos x) (den_pos y)) (den_pos z) in
    let p = sized l k x (den y * den z) nx (omega arith) (omega arith) in
    let q = sized l k y (den x * den z) ny (omega arith) (omega arith) in
    let r = sized l k z (den x * den y) nz (omega arith) (omega arith) in
    record {
      a = rank k x u;
      b = rank k y v;
      c = rank k z w;
      xy = like l k L x y u v p q;
      yx = like l k L y x v u q p;
      yz = like l k L y z v w q r;
      zy = like l k L z y w v r q;
      xz = like l k L x z u w p r;
      zx = like l k L z x w u r p;
    }
