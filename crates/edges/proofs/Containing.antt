-- What `edges::contains` has found out by an edge, on each way out of its loop. Assumes nothing.
use Prim.Native.Nat.{ℕ, ◌+◌, ◌≤◌, ◌<◌}
use native.Mathlib.Omega.{arith}
use mathlib.Core.Path.{◌≡◌, refl, sym, ap, ◌∙◌}
use mathlib.Core.Bool.{Bool, true, false, not}
use mathlib.Core.List.{List}
use borrow.Author.Count.{below_none, below_more}
use lib.ListN.{length}
use Rattle.counts.proofs.Laws.{every_false, every_true}
use Rattle.point.specs.declared.EdgeSide.TheVariants.{Right}
use Rattle.point.specs.declared.Point.{Point}
use Rattle.point.specs.Sides.{side_of, same_side_of}
use Rattle.stored.specs.Stored.{Polygon, unused, corner, corner_count, edge_of}
use Rattle.stored.proofs.Records.{Upto, upto_none, ends_with_slots, ends_here, goes_on}
use Rattle.faults.specs.Accepted.{Corners}
use Rattle.edges.specs.Where.{contains_in}

-- edge i is one of the polygon's unless the slots are all, and the point is Right of none before it
pub record NotRight (vertices : List Point) (q : Polygon) (point : Point) (slots i : ℕ) : Type 0 where
  pub upto : Upto q slots i
  pub inside : i < slots → i < corner_count q
  pub none : (k : ℕ) → k < i → not (same_side_of (side_of point (edge_of vertices q k)) Right) ≡ true

module _ {n : ℕ} {q : Polygon} (corners : Corners n q) where
  pub none_yet : {vertices : List Point} {point : Point} {slots : ℕ} → slots ≡ length q.corners → NotRight vertices q point slots 0
  none_yet e = record { upto = upto_none e; inside = λ l. omega (arith, corners.three); none = below_none _ }

module _ {vertices : List Point} {q : Polygon} {point : Point} {slots i : ℕ} (h : NotRight vertices q point slots i) where
  -- every edge was looked at
  pub in_by_all : slots ≤ i → true ≡ contains_in vertices q point
  in_by_all l = rw (ends_with_slots h.upto l) (sym (every_true _ _ h.none))

  module _ (l : i < slots) {r : Bool} (asked : r ≡ same_side_of (side_of point (edge_of vertices q i)) Right) where
    pub is_out : r ≡ true → false ≡ contains_in vertices q point
    is_out e = sym (every_false _ _ i (h.inside l) (ap not (sym asked ∙ e)))

    module _ (e : r ≡ false) where
      none_here : (k : ℕ) → k < i + 1 → not (same_side_of (side_of point (edge_of vertices q k)) Right) ≡ true
      none_here = below_more _ _ h.none (ap not (sym asked ∙ e))

      upto : Upto q slots (i + 1)
      upto = record { all = h.upto.all; low = omega (arith, h.inside l) }

      pub in_with_slots : slots ≤ i + 1 → true ≡ contains_in vertices q point
      in_with_slots m = rw (ends_with_slots upto m) (sym (every_true _ _ none_here))

      pub in_here : i + 1 < slots → {x : ℕ} → x ≡ corner q (i + 1) → x ≡ unused → true ≡ contains_in vertices q point
      in_here m read g = rw (ends_here upto m read g) (sym (every_true _ _ none_here))

      pub none_more : (i + 1 < slots → corner q (i + 1) ≡ unused → ⊥) → NotRight vertices q point slots (i + 1)
      none_more g = record { upto = upto; inside = λ m. goes_on upto m refl (g m); none = none_here }
