-- `faults::corners_distinct` meets its contract: those before are so. Assumes nothing.
use Rattle.faults.specs.Tests.{unlike_earlier}
use Rattle.faults.proofs.Ways.{Passed}
use Rattle.faults.proofs.corners_distinct.Given as goal

abbrev pub invariant-loop-j : goal.invariant-loop-j
invariant-loop-j l = Passed (unlike_earlier l.polygon) l.j l.n
