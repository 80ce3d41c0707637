-- What a loop over the walk needs of the part of an edge that is on: the edge is inside the polygon's record, and the step that the code works out is the one
-- over it. Rests on proofs/Rounds and on proofs/Seen of view. Assumes nothing.
use Prim.Native.Nat.{ℕ, ◌/◌, ◌<◌}
use mathlib.Core.Path.{◌≡◌, sym, ap, ◌∙◌}
use mathlib.Core.Bool.{false}
use mathlib.Core.List.{List}
use lib.ListN.{length}
use Rattle.std.specs.Prelude.{Option}
use Rattle.walk.specs.declared.Successor.{Successor}
use Rattle.walk.specs.declared.round.Round.{Round}
use Rattle.walk.specs.Turns.{is_over_of, edge_number_of}
use Rattle.plan.specs.Plan.{is_marked}
use Rattle.stored.specs.Stored.{Floor, Polygon, record_in, vertices_of, floor_in, Lies}
use Rattle.stored.proofs.Records.{lies}
use Rattle.edges.specs.Where.{is_turn, HasEdge}
use Rattle.edges.specs.Ground.{Ground}
use Rattle.edges.proofs.Inside.{slot_inside, has_edge, listed_corners}
use Rattle.route.specs.declared.Step.{Step}
use Rattle.steps.specs.declared.Node.{Node}
use Rattle.view.specs.declared.View.{View}
use Rattle.steps.specs.Steps.{step_of}
use Rattle.view.specs.View.{view_of, step_by}
use Rattle.going.specs.Going.{entry_for, count_for, Stands, Goes}
use Rattle.going.proofs.Rounds.{its_polygon, entry_in_count, turning}
use Rattle.view.proofs.Seen.{view_by_plan, step_by_view}

module _ (plan vs ps : List ℕ) (node : Node) (h : Stands plan vs ps node) where
  abbrev f : Floor
  f = floor_in plan vs ps

  abbrev its : Polygon
  its = record_in plan ps node.polygon

  pub polygon_lies : Lies plan ps node.polygon
  polygon_lies = lies h.listed.polygons_planned node.polygon h.listed.listed

  -- what the walk needs to begin
  pub begins_at : Lies plan ps node.polygon × (entry_for its node < count_for its node)
  begins_at = (polygon_lies, entry_in_count plan vs ps node h)

  pub edge_inside : (round : Round) → Goes its node round → is_over_of round ≡ false → edge_number_of round < length its.corners
  edge_inside round goes on = slot_inside its _ (turning plan vs ps node h round goes on).edge_in

  -- what the walk over it needs
  pub edge_there : (round : Round) → Goes its node round → is_over_of round ≡ false → HasEdge (length vs / 8) its (edge_number_of round)
  edge_there round goes on = has_edge (listed_corners h.listed) _ (turning plan vs ps node h round goes on).edge_in

  -- the step by the view of the plan
  module _ (g : Ground plan vs ps) (view : View) (seen : view ≡ view_of (vertices_of vs) (is_marked plan) node) where
    pub step_on : (s : Successor) (p : Option Step) → p ≡ step_by its view s → p ≡ step_of f node s
    step_on s p e =
        e
        ∙ ap (λ (w : View). step_by its w s) (seen ∙ view_by_plan g node h.first_listed h.second_listed)
        ∙ ap (λ (q : Polygon). step_by q (view_of (vertices_of vs) (is_turn f) node) s) (sym (its_polygon plan vs ps node h))
        ∙ step_by_view f node s
