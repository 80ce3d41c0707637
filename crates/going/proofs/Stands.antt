-- On an accepted floor every step leads to a node that stands on it: the polygon is listed, its entry edge's vertices too, and the edge is one of its
-- own. Assumes nothing.
use Prim.Native.Nat.{ℕ, ◌≤◌, ◌<◌}
use native.Mathlib.Nat.{lt_of_le_of_lt}
use native.Mathlib.Decide.{dec_lt}
use native.Mathlib.Omega.{arith}
use mathlib.Core.Path.{◌≡◌, sym, subst}
use mathlib.Core.Bool.{Bool}
use mathlib.Core.List.{List}
use mathlib.Core.Logic.{⊎_elim}
use borrow.Author.Tests.{eq-eqb}
use lib.Dec.{T, eqb}
use lib.ListN.{length, get_or-eq_default}
use Rattle.counts.proofs.Laws.{first_below}
use Rattle.point.specs.declared.Point.{Point}
use Rattle.walk.specs.declared.Successor.{Successor}
use Rattle.plan.specs.Plan.{vertex_count_in, polygon_count_in}
use Rattle.stored.specs.Stored.{Floor, Polygon, unused, record_in, vertices_of, floor_in, corner, neighbour, corner_count, corner_after, polygon}
use Rattle.faults.specs.Accepted.{Links, Back}
use Rattle.edges.specs.Ground.{Ground}
use Rattle.stored.proofs.Records.{polygon_read, polygons_counted}
use Rattle.edges.proofs.Inside.{listed_of, corner_below, after_below}
use Rattle.route.specs.declared.Step.{Step}
use Rattle.route.specs.World.{◌∈◌}
use Rattle.steps.specs.declared.Node.{Node}
use Rattle.steps.specs.Steps.{place_of, entry_of, steps_from, seed_node, enter, candidates}
use Rattle.going.specs.Going.{Stands}
use Rattle.walk.proofs.All.{all_of}
use Rattle.steps.proofs.Made.{Over, yes_tells, every_step_from}

-- ---- an edge with a neighbour is one of the polygon's, and the neighbour has it too

neighbour_past : (f : Floor) (p i : ℕ) → length (polygon f p).neighbours ≤ i → neighbour (polygon f p) i ≡ unused
unfolding neighbour
neighbour_past f p i l = get_or-eq_default (polygon f p).neighbours unused l

used_is_edge : (f : Floor) (p i : ℕ) → Links f p → (neighbour (polygon f p) i ≡ unused → ⊥) → i < corner_count (polygon f p)
used_is_edge f p i links used = go (dec_lt i (corner_count (polygon f p))) (dec_lt i (length (polygon f p).neighbours))
  where
    go : Dec (i < corner_count (polygon f p)) → Dec (i < length (polygon f p).neighbours) → i < corner_count (polygon f p)
    go (yes a) b = a
    go (no a) (yes b) = absurd (used (links.rest i (omega arith) b))
    go (no a) (no b) = absurd (used (neighbour_past f p i (omega arith)))

used_goes_back : (f : Floor) (p i : ℕ) → Links f p → (neighbour (polygon f p) i ≡ unused → ⊥) → Back f p i (neighbour (polygon f p) i)
used_goes_back f p i links used = ⊎_elim (λ wall. absurd (used wall)) (λ back. back) (links.linked i (used_is_edge f p i links used))

module _ (plan vs ps : List ℕ) (g : Ground plan vs ps) where
  abbrev f : Floor
  f = floor_in plan vs ps

  -- ---- the seed

  pub seed_stands : (start : Point) (p : ℕ) → p < polygon_count_in plan → Stands plan vs ps (seed_node start p)
  unfolding seed_node
  seed_stands start p l = record {
    listed = listed_of g p l;
    first_listed = omega (arith, g.vertices_planned.counted, g.vertices_planned.some);
    second_listed = omega (arith, g.vertices_planned.counted, g.vertices_planned.some);
    entered = λ e. absurd (subst (λ (b : Bool). T b) e tt);
  }

  -- ---- a step

  module _ (node : Node) (h : Stands plan vs ps node) (c : Successor) (t : Step) (over : Over f node c t) where
    its_links : Links f node.polygon
    its_links = g.accepted.links node.polygon (subst (λ (k : ℕ). node.polygon < k) (sym (polygons_counted g.polygons_planned)) h.listed.listed)

    back : Back f node.polygon c.edge (neighbour (polygon f node.polygon) c.edge)
    back = used_goes_back f node.polygon c.edge its_links over.used

    same_polygon : polygon f node.polygon ≡ record_in plan ps node.polygon
    same_polygon = polygon_read g.polygons_planned node.polygon h.listed.listed

    edge_in : c.edge < corner_count (record_in plan ps node.polygon)
    edge_in = rw same_polygon at (used_is_edge f node.polygon c.edge its_links over.used)

    polygon_in_lem : t.polygon < polygon_count_in plan
    polygon_in_lem = rw (over.its_polygon, ← polygons_counted g.polygons_planned) back.listed

    first_in : t.first < vertex_count_in plan
    first_in = rw (over.its_first, same_polygon) (corner_below h.listed.corners c.edge edge_in)

    second_in : t.second < vertex_count_in plan
    second_in = rw (over.its_second, same_polygon) (after_below h.listed.corners c.edge edge_in)

    entry_in : place_of (polygon f t.polygon) (corner_count (polygon f t.polygon)) t.second < corner_count (polygon f t.polygon)
    unfolding place_of
    entry_in =
        let other = polygon f (neighbour (polygon f node.polygon) c.edge) in
        let shared = corner_after (polygon f node.polygon) c.edge in
        rw (over.its_polygon, over.its_second)
        (lt_of_le_of_lt (first_below _ (λ i. eqb (corner other i) shared) back.place back.in_place (eq-eqb _ _ back.starts)) back.in_place)

    over_stands : Stands plan vs ps (enter (vertices_of vs) node t)
    unfolding enter entry_of
    over_stands = record {
      listed = listed_of g t.polygon polygon_in_lem;
      first_listed = first_in;
      second_listed = second_in;
      entered = λ e.
          subst (λ (q : Polygon). place_of (polygon f t.polygon) (corner_count (polygon f t.polygon)) t.second < corner_count q)
          (polygon_read g.polygons_planned t.polygon polygon_in_lem) entry_in;
    }

  pub enter_stands : (goal : ℕ) (node : Node) → Stands plan vs ps node → (t : Step) → t ∈ steps_from f goal node
      → Stands plan vs ps (enter (vertices_of vs) node t)
  enter_stands goal node h t m =
      every_step_from f node (λ u. Stands plan vs ps (enter (vertices_of vs) node u)) goal
      (all_of _ (candidates f node) (λ c u e. over_stands node h c u (yes_tells f node c u e))) t m
