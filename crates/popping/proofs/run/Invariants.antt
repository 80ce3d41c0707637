-- the buffers are still those that were lent, and the run so far is a part of the whole: what was to be run is what is left to be run
use Rattle.std.proofs.Common.{◌-◌}
use Rattle.machine.specs.Buffers.{state_in, SameBuffers}
use Rattle.machine.specs.Search.{searching, calm}
use Rattle.popping.proofs.Running.{Runs}
use Rattle.popping.proofs.run.Given as goal

abbrev pub invariant-loop : goal.invariant-loop
invariant-loop l =
    SameBuffers l.fn.work l.work
    × Runs l.floor.plan.now l.floor.vertices.now l.floor.polygons.now l.task l.budget
    (searching (state_in l.fn.work l.fn.counts) calm l.fn.table)
    (searching (state_in l.work l.counts) l.stall l.table) (l.budget - l.counter)
