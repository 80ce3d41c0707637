-- `making::make_edge` meets its contract. The loop's invariant: what was to be made of the edge is what is left to be made, and the
-- buffers are still those that were lent. Assumes nothing.
use Rattle.edges.specs.AcceptedFloor.{the_floor}
use Rattle.machine.specs.Buffers.{state_in, SameBuffers}
use Rattle.making.proofs.Looping.{Parts}
use Rattle.making.proofs.make_edge.Given as goal

abbrev pub invariant-loop-k : goal.invariant-loop-k
invariant-loop-k l =
    SameBuffers l.fn.work l.work
    × Parts (the_floor l.floor) l.task l.from (state_in l.fn.work l.fn.counts) (state_in l.work l.counts) l.edge l.walked l.k
