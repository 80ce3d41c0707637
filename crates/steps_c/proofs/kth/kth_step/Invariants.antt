-- `kth::kth_step` meets its contract. The loop's invariant: the step that is sought is among those over the parts that are left. The measure is the number of
-- edges that are left. Assumes nothing.
use Rattle.std.proofs.Common.{◌≡◌}
use Rattle.plan.specs.Plan.{is_marked}
use Rattle.stored.specs.Stored.{record_in, vertices_of}
use Rattle.edges.specs.AcceptedFloor.{the_floor}
use Rattle.view.specs.View.{view_of}
use Rattle.going.specs.Going.{Goes}
use Rattle.going.proofs.Rounds.{edges_left}
use Rattle.steps_c.proofs.Counting.{Counted-in}
use Rattle.steps_c.proofs.kth.kth_step.Given as goal

abbrev pub invariant-loop-polygon : goal.invariant-loop-polygon
invariant-loop-polygon l =
    (l.view ≡ view_of (vertices_of l.floor.vertices.now) (is_marked l.floor.plan.now) l.node)
    × Goes (record_in l.floor.plan.now l.floor.polygons.now l.node.polygon) l.node l.round
    × Counted-in (the_floor l.floor) l.goal l.node l.k l.round l.left

abbrev pub decreases-loop-polygon : goal.decreases-loop-polygon
decreases-loop-polygon l = edges_left l.round
