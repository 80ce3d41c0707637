-- A test g of each number decides a statement R of it, both ways. Then `every` decides that R holds of all, `first` at a test that fails gives the
-- lowest number at fault, and `first` at the test itself the least of which R holds: said once, for any test and any statement. Assumes nothing.
use Prim.Native.Nat.{ℕ, ◌<◌}
use native.Mathlib.Nat.{lt_trans, lt_of_le_of_lt, le_of_lt, le_of_eq, le_antisymm, le_refl, lt_irrefl}
use mathlib.Core.Path.{◌≡◌, refl, sym, ap, ◌∙◌, subst}
use mathlib.Core.Bool.{Bool, true, false, not}
use mathlib.Core.Logic.{◌↔◌}
use borrow.Author.Tests.{not-true, not-false}
use lib.Dec.{T}
use Rattle.counts.specs.Counts.{every, first, Lowest, Least, TellsLowest}
use Rattle.counts.proofs.Laws.{every_true, every_at, first_is, first_le, first_before, first_at, first_below}

-- ---- one test

pub holds_not : {R : Type 0} {b : Bool} → (b ≡ true ↔ R) → b ≡ false → R → ⊥
holds_not d e r = subst (λ (v : Bool). T v) (sym (d.1 r) ∙ e) tt

pub not_holds : {R : Type 0} (b : Bool) → (b ≡ true ↔ R) → (R → ⊥) → b ≡ false
not_holds true d n = absurd (n (d.0 refl))
not_holds false d n = refl

-- ---- each of n

module _ (n : ℕ) (g : ℕ → Bool) (R : ℕ → Type 0) (d : (k : ℕ) → k < n → g k ≡ true ↔ R k) where
  pub every_decides : every n g ≡ true ↔ ((k : ℕ) → k < n → R k)
  every_decides = ((λ e k l. (d k l).0 (every_at n g e k l)), (λ h. every_true n g (λ k l. (d k l).1 (h k l))))

  -- the first of which the test fails is the lowest at fault
  pub first_is_lowest : first n (λ k. not (g k)) < n → Lowest n R (first n (λ k. not (g k)))
  first_is_lowest l = record {
    listed = l;
    before = λ k h. (d k (lt_trans h l)).0 (not-false (g k) (first_before n (λ k. not (g k)) k h));
    fault = λ r. holds_not (d (first n (λ k. not (g k))) l) (not-true (g (first n (λ k. not (g k)))) (first_at n (λ k. not (g k)) l)) r;
  }

  pub lowest_is_first : (m : ℕ) → Lowest n R m → first n (λ k. not (g k)) ≡ m
  lowest_is_first m b =
      first_is n (λ k. not (g k)) m (le_of_lt b.listed) (λ k h. ap not ((d k (lt_trans h b.listed)).1 (b.before k h)))
      (λ h. ap not (not_holds (g m) (d m h) b.fault))

  -- there is none at fault just where the first is the end
  pub none_at_fault : (first n (λ k. not (g k)) ≡ n) ↔ ((k : ℕ) → k < n → R k)
  none_at_fault = (
    (λ e k l. (d k l).0 (not-false (g k) (first_before n (λ k. not (g k)) k (subst (λ (v : ℕ). k < v) (sym e) l)))),
    (λ h. first_is n (λ k. not (g k)) n (le_refl n) (λ k l. ap not ((d k l).1 (h k l))) (λ l. absurd (lt_irrefl n l))),
  )

  pub first_tells_fault : TellsLowest n R (first n (λ k. not (g k)))
  first_tells_fault = record {
    lowest = first_is_lowest;
    is_lowest = lowest_is_first;
    none = ((λ h. none_at_fault.0 (le_antisymm (first_le n (λ k. not (g k))) h)), (λ h. le_of_eq (sym (none_at_fault.1 h))));
  }

  -- the first of which the test holds is the least that is so
  pub first_is_least : first n g < n → Least n R (first n g)
  first_is_least l = record {
    listed = l;
    before = λ k h r. holds_not (d k (lt_trans h l)) (first_before n g k h) r;
    here = (d (first n g) l).0 (first_at n g l);
  }

  pub least_is_first : (m : ℕ) → Least n R m → first n g ≡ m
  least_is_first m b = first_is n g m (le_of_lt b.listed) (λ k h. not_holds (g k) (d k (lt_trans h b.listed)) (b.before k h)) (λ h. (d m h).1 b.here)

  -- some is so just where the first is not the end
  pub some_is_so : (first n g < n) ↔ ((k : ℕ) × (k < n) × R k)
  some_is_so = (
    (λ l. (first n g, l, (d (first n g) l).0 (first_at n g l))),
    (λ s. lt_of_le_of_lt (first_below n g s.0 s.1 ((d s.0 s.1).1 s.2)) s.1),
  )
