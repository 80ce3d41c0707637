-- The floor that an accepted floor's lists stand for, by its plan. Assumes nothing.
use Rattle.stored.specs.Stored.{Floor, floor_in}
use Rattle.edges.specs.declared.accepted.AcceptedFloor.{AcceptedFloor}

abbrev pub the_floor : AcceptedFloor → Floor
the_floor g = floor_in g.plan.now g.vertices.now g.polygons.now
