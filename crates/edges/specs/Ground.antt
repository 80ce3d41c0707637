-- What is known of a floor below the door, once a look has accepted it. Whatever walks on it asks for this and for nothing else. Assumes nothing.
use Rattle.std.specs.Prelude.{ℕ, ◌<◌, ◌≡◌, List}
use Rattle.plan.specs.Plan.{vertex_count_in, is_marked}
use Rattle.stored.specs.Stored.{floor_in, VerticesPlanned, PolygonsPlanned}
use Rattle.faults.specs.Accepted.{Accepted}
use Rattle.edges.specs.Where.{is_turn}

pub record Ground (plan vertices polygons : List ℕ) : Type 0 where
  pub vertices_planned : VerticesPlanned plan vertices
  pub polygons_planned : PolygonsPlanned plan polygons
  pub accepted : Accepted (floor_in plan vertices polygons)
  pub turns_are_marked : (v : ℕ) → v < vertex_count_in plan → is_marked plan v ≡ is_turn (floor_in plan vertices polygons) v
