-- `seek::is_step` meets its contract. The loop's invariant: the record is sought among the parts of the edges that are left. Assumes nothing.
use Rattle.going.proofs.Rounds.{edges_left}
use Rattle.seek.proofs.Seeking.{Sought}
use Rattle.seek.proofs.is_step.Given as goal

abbrev pub invariant-loop-polygon : goal.invariant-loop-polygon
invariant-loop-polygon l =
    Sought l.floor.plan.now l.floor.vertices.now l.floor.polygons.now l.node l.on_file.route.now l.on_file.number l.goal l.round

abbrev pub decreases-loop-polygon : goal.decreases-loop-polygon
decreases-loop-polygon l = edges_left l.round
