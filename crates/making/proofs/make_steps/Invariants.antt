-- `making::make_steps` meets its contract. The loop's invariant: what was to be made is what is left to be made over the edges that are left, and
-- the buffers are still those that were lent. The measure is the number of these edges. Assumes nothing.
use Rattle.going.proofs.Rounds.{edges_left}
use Rattle.machine.specs.Buffers.{state_in, SameBuffers}
use Rattle.making.proofs.Looping.{Loops}
use Rattle.making.proofs.make_steps.Given as goal

abbrev pub invariant-loop-polygon : goal.invariant-loop-polygon
invariant-loop-polygon l =
    SameBuffers l.fn.work l.work
    × Loops l.floor.plan.now l.floor.vertices.now l.floor.polygons.now l.task l.from (state_in l.fn.work l.fn.counts)
    (state_in l.work l.counts) l.round

abbrev pub decreases-loop-polygon : goal.decreases-loop-polygon
decreases-loop-polygon l = edges_left l.round
