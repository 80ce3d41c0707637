-- A node for which the test holds stands on the floor. Assumes nothing.
use Prim.Native.Nat.{ℕ, ◌<◌}
use mathlib.Core.Path.{◌≡◌, refl, subst}
use mathlib.Core.Bool.{Bool, true, false, ◌&&◌, cond}
use mathlib.Core.List.{List}
use borrow.Author.Tests.{ltb-true}
use lib.Dec.{ltb}
use lib.ListN.{length}
use Rattle.float.proofs.Tests.{untrue}
use Rattle.plan.specs.Plan.{vertex_count_in, polygon_count_in}
use Rattle.stored.specs.Stored.{Floor, Polygon, floor_in, polygons_in, polygon, corner_count}
use Rattle.edges.specs.Ground.{Ground}
use Rattle.stored.proofs.Records.{polygons_counted, polygon_read}
use Rattle.edges.proofs.Inside.{listed_of}
use Rattle.steps.specs.declared.Node.{Node}
use Rattle.steps.specs.Steps.{place_of, entry_of}
use Rattle.going.specs.Going.{Stands}
use Rattle.steps_c.specs.Ask.{is_entered, is_on}

-- ---- what a test that holds says

cond_true : (a b : Bool) → cond a b false ≡ true → (a ≡ true) × (b ≡ true)
cond_true true b e = (refl, e)
cond_true false b e = absurd (untrue e)

and_true : (a b : Bool) → (a && b) ≡ true → (a ≡ true) × (b ≡ true)
and_true true b e = (refl, e)
and_true false b e = absurd (untrue e)

entered_true : (q : Polygon) (node : Node) → is_entered q node ≡ true → node.seed ≡ false → place_of q (corner_count q) node.second < corner_count q
unfolding is_entered
entered_true q node e other = ltb-true _ _ (rw other at e)

-- ---- the node

module _ {plan vs ps : List ℕ} (g : Ground plan vs ps) (node : Node) (on : is_on (vertex_count_in plan) (polygons_in plan ps) node ≡ true) where
  abbrev f : Floor
  f = floor_in plan vs ps

  parts : (ltb node.polygon (length f.polygons) ≡ true)
      × ((ltb node.first (vertex_count_in plan) && (ltb node.second (vertex_count_in plan) && is_entered (polygon f node.polygon) node)) ≡ true)
  unfolding is_on
  parts = cond_true _ _ on

  vertices_listed : (ltb node.first (vertex_count_in plan) ≡ true)
      × ((ltb node.second (vertex_count_in plan) && is_entered (polygon f node.polygon) node) ≡ true)
  vertices_listed = and_true _ _ parts.1

  second_listed : (ltb node.second (vertex_count_in plan) ≡ true) × (is_entered (polygon f node.polygon) node ≡ true)
  second_listed = and_true _ _ vertices_listed.1

  below : node.polygon < polygon_count_in plan
  below = subst (λ (n : ℕ). node.polygon < n) (polygons_counted g.polygons_planned) (ltb-true _ _ parts.0)

  pub on_stands : Stands plan vs ps node
  unfolding entry_of
  on_stands = record {
    listed = listed_of g node.polygon below;
    first_listed = ltb-true _ _ vertices_listed.0;
    second_listed = ltb-true _ _ second_listed.0;
    entered = λ other.
        subst (λ (q : Polygon). place_of (polygon f node.polygon) (corner_count (polygon f node.polygon)) node.second < corner_count q)
        (polygon_read g.polygons_planned node.polygon below) (entered_true (polygon f node.polygon) node second_listed.1 other);
  }
