-- Distances on record: where the record of a root stands, and what leaves it there. Rests on specs/Layout. Assumes nothing.
use Prim.Native.Nat.{ℕ, ◌+◌, ◌*◌, ◌≤◌, ◌<◌}
use native.Mathlib.Omega.{arith}
use mathlib.Core.Path.{◌≡◌, refl, ap, ◌∙◌}
use mathlib.Core.Bool.{Bool, true, false, not, cond}
use borrow.Author.Tests.{ltb-false, lt-ltb, le-ltb}
use lib.Dec.{T, ltb}
use mathlib.Core.List.{List, [], ◌∷◌}
use mathlib.Core.Logic.{inl, inr}
use lib.Ieee.{Float, nan, eq, is_nan}
use lib.ListN.{length}
use lib.Seq.{get_or-set_other}
use Rattle.std.specs.Prelude.{Option, Some, None, unwrap_or}
use Rattle.float.proofs.Tests.{and_true}
use Rattle.float.proofs.Nan.{eq_no_nan}
use Rattle.float.proofs.Order.{eq_reflexive, eq_respects_right}
use Rattle.counts.specs.Counts.{below}
use Rattle.counts.proofs.Laws.{first_is, first_le, first_before, first_at, first_same}
use Rattle.point.specs.declared.Point.{Point}
use Rattle.point.specs.Point.{point_of, same_of}
use Rattle.steps.specs.declared.Node.{Node}
use Rattle.places.specs.Layout.{floats_per_place, record_xcell, record_ycell, distance_cell, float_at, put_floats, record_root, record_for, record_put}
use Rattle.places.specs.Layout.{distance_put}
use Rattle.places.proofs.Rows.{puts_other, puts_same, floats_elsewhere}

-- ---- roots by ==

-- roots that are the same are the same as the same
pub same_respects : (a b p : Point) → same_of a b ≡ true → same_of p a ≡ same_of p b
unfolding same_of
same_respects a b p e =
    let h = and_true (eq a.x b.x) (eq a.y b.y) e in
    rw (eq_respects_right a.x b.x p.x h.0, eq_respects_right a.y b.y p.y h.1)

-- a point without a NaN is the same as itself
pub same_itself : (a : Point) → T (not (is_nan a.x)) → T (not (is_nan a.y)) → same_of a a ≡ true
unfolding same_of
same_itself a x y = rw (eq_reflexive a.x x, eq_reflexive a.y y)

-- so is what is the same as something
pub same_self : (a b : Point) → same_of a b ≡ true → same_of a a ≡ true
unfolding same_of
same_self a b e =
    let h = and_true (eq a.x b.x) (eq a.y b.y) e in
    same_itself a (eq_no_nan a.x b.x h.0).0 (eq_no_nan a.y b.y h.1).0

-- ---- the roots of the records

module _ (floats : List Float) where
  -- a node that is put leaves them
  pub record_root_put : (i : ℕ) (node : Node) (f : Float) (k : ℕ) → record_root (put_floats floats i node f) k ≡ record_root floats k
  unfolding record_root
  record_root_put i node f k =
      let stays = floats_elsewhere floats i node f k in
      rw (stays record_xcell (omega arith) (inr (omega arith)), stays record_ycell (omega arith) (inr (omega arith)))

  -- so does a distance
  pub record_root_distance : (r : ℕ) (distance : Float) (k : ℕ) → record_root (distance_put floats r distance) k ≡ record_root floats k
  unfolding record_root distance_put float_at
  record_root_distance r distance k =
      let at = r * floats_per_place + distance_cell in
      rw (
        get_or-set_other floats at (k * floats_per_place + record_xcell) distance nan (λ e. omega arith),
        get_or-set_other floats at (k * floats_per_place + record_ycell) distance nan (λ e. omega arith),
      )

  module _ (r : ℕ) (root : Point) (distance : Float) where
    abbrev cells : List Float
    cells = root.x ∷ root.y ∷ distance ∷ []

    -- a record that is put leaves those below it
    pub record_root_below : (k : ℕ) → k < r → record_root (record_put floats r root distance) k ≡ record_root floats k
    unfolding record_root record_put float_at
    record_root_below k l =
        let stays = puts_other floats (r * floats_per_place) record_xcell cells in
        rw (stays (k * floats_per_place + record_xcell) nan (inl (omega arith)), stays (k * floats_per_place + record_ycell) nan (inl (omega arith)))

    pub record_root_there : (r + 1) * floats_per_place ≤ length floats → record_root (record_put floats r root distance) r ≡ root
    unfolding record_root record_put float_at point_of
    record_root_there room =
        let there = puts_same floats (r * floats_per_place) record_xcell cells in
        rw (there 0 nan (omega arith) (omega arith), there 1 nan (omega arith) (omega arith))

-- ---- where a root's record stands

pub record_for_le : (fs : List Float) (records : ℕ) (root : Point) → record_for fs records root ≤ records
unfolding record_for
record_for_le fs records root = first_le records (λ r. same_of (record_root fs r) root)

-- what a scan over the records answers
module _ (fs : List Float) (records : ℕ) (root : Point) where
  pub found_here : (r : ℕ) → r < records → ((k : ℕ) → k < r → same_of (record_root fs k) root ≡ false) → same_of (record_root fs r) root ≡ true
      → Some r ≡ below records (record_for fs records root)
  unfolding record_for
  found_here r l before here = rw (first_is records (λ k. same_of (record_root fs k) root) r (omega arith) before (λ _. here), lt-ltb r records l)

  pub found_nowhere : ((k : ℕ) → k < records → same_of (record_root fs k) root ≡ false) → None ≡ below records (record_for fs records root)
  unfolding record_for
  found_nowhere before =
      rw (first_is records (λ k. same_of (record_root fs k) root) records (omega arith) before (λ l. absurd (omega arith)), le-ltb records records (omega arith))

-- a number that is found below n, and n where none is
below_or : (n k : ℕ) → k ≤ n → unwrap_or (below n k) n ≡ k
below_or n k l = go (ltb k n) refl
  where
    go : (b : Bool) → ltb k n ≡ b → unwrap_or (cond b (Some k) None) n ≡ k
    go true e = refl
    go false e = omega (arith, ltb-false k n e)

-- the number of the record that a scan finds, and where it finds none that of the next
pub number_found : (fs : List Float) (records : ℕ) (root : Point) {found : Option ℕ} → found ≡ below records (record_for fs records root)
    → {number : ℕ} → number ≡ unwrap_or found records → number ≡ record_for fs records root
number_found fs records root e n = n ∙ rw e (below_or records (record_for fs records root) (record_for_le fs records root))

-- roots that are the same have the same record
pub record_for_equal : (fs : List Float) (records : ℕ) (a b : Point) → same_of a b ≡ true → record_for fs records a ≡ record_for fs records b
unfolding record_for
record_for_equal fs records a b e = first_same records _ _ (λ k l. same_respects a b (record_root fs k) e)

module _ (new old : List Float) (records : ℕ) (root : Point) (same : (k : ℕ) → k < records → record_root new k ≡ record_root old k) where
  pub record_for_same : record_for new records root ≡ record_for old records root
  unfolding record_for
  record_for_same = first_same records _ _ (λ k l. ap (λ (p : Point). same_of p root) (same k l))

  -- with one record more it stays where it is
  pub record_for_more : record_for old records root < records → record_for new (records + 1) root ≡ record_for old records root
  unfolding record_for
  record_for_more low =
      first_is (records + 1) (λ r. same_of (record_root new r) root) (record_for old records root) (omega (arith, low))
      (λ k l. ap (λ (p : Point). same_of p root) (same k (omega (arith, low, l))) ∙ first_before records (λ r. same_of (record_root old r) root) k l)
      (λ l. ap (λ (p : Point). same_of p root) (same (record_for old records root) low) ∙ first_at records (λ r. same_of (record_root old r) root) low)

  -- a root that had none has the one more
  pub record_for_new : records ≤ record_for old records root → record_root new records ≡ root → same_of root root ≡ true
      → record_for new (records + 1) root ≡ records
  unfolding record_for
  record_for_new none there self =
      first_is (records + 1) (λ r. same_of (record_root new r) root) records (omega arith)
      (λ k l. ap (λ (p : Point). same_of p root) (same k l) ∙ first_before records (λ r. same_of (record_root old r) root) k (omega (arith, none, l)))
      (λ l. ap (λ (p : Point). same_of p root) there ∙ self)

pub record_for_put : (floats : List Float) (i : ℕ) (node : Node) (f : Float) (records : ℕ) (root : Point)
    → record_for (put_floats floats i node f) records root ≡ record_for floats records root
record_for_put floats i node f records root =
    record_for_same (put_floats floats i node f) floats records root (λ k l. record_root_put floats i node f k)
