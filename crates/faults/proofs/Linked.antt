-- The link across one edge of a listed polygon, case by case, in words of its stored record. Assumes nothing.
use Prim.Native.Nat.{ℕ, ◌≤◌, ◌<◌}
use mathlib.Core.Path.{◌≡◌, ◌∙◌}
use mathlib.Core.Bool.{Bool, true, false}
use mathlib.Core.List.{List}
use borrow.Author.Tests.{eq-eqb, ne_eqb, lt-ltb, le-ltb}
use Rattle.plan.specs.Plan.{polygon_count_in}
use Rattle.stored.specs.Stored.{Polygon, unused, polygons_in, record_in, corner, neighbour, corner_after, is_listed, PolygonsPlanned}
use Rattle.faults.specs.Tests.{names_back, link_right}
use Rattle.stored.proofs.Records.{polygon_read, polygons_counted}

module _ {plan ps : List ℕ} (planned : PolygonsPlanned plan ps) (p i : ℕ) (listed : p < polygon_count_in plan)
    {here : Polygon} (read : here ≡ record_in plan ps p) where
  pub wall_right : neighbour here i ≡ unused → true ≡ link_right (polygons_in plan ps) p i
  unfolding link_right
  wall_right e = rw (polygon_read planned p listed, ← read, eq-eqb _ _ e)

  module _ {q : ℕ} (across : (neighbour here i ≡ q) × (q ≡ unused → ⊥)) where
    pub self_wrong : q ≡ p → false ≡ link_right (polygons_in plan ps) p i
    unfolding link_right
    self_wrong e = rw (polygon_read planned p listed, ← read, across.0, ne_eqb _ _ across.1, eq-eqb _ _ e)

    module _ (other : q ≡ p → ⊥) {n : ℕ} (counted : n ≡ polygon_count_in plan) where
      pub unlisted_wrong : n ≤ q → false ≡ link_right (polygons_in plan ps) p i
      unfolding link_right is_listed
      unlisted_wrong h =
          rw (polygon_read planned p listed, ← read, across.0, ne_eqb _ _ across.1, ne_eqb _ _ other, polygons_counted planned, ← counted, le-ltb _ _ h)

      pub other_names_back : q < n → {a : ℕ} → a ≡ corner here i → {b : ℕ} → b ≡ corner_after here i
          → {other : Polygon} → other ≡ record_in plan ps q → {r : Bool} → r ≡ names_back other p a b → r ≡ link_right (polygons_in plan ps) p i
      unfolding link_right is_listed
      other_names_back h begins ends back r =
          r ∙ rw (
            polygon_read planned p listed,
            ← read,
            across.0,
            ne_eqb _ _ across.1,
            ne_eqb _ _ other,
            polygons_counted planned,
            ← counted,
            lt-ltb _ _ h,
            polygon_read planned q (rw (← counted) h),
            ← back,
            begins,
            ends,
          )
