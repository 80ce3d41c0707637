-- `faults::rest_unused` meets its contract: those before are so. Assumes nothing.
use Rattle.faults.proofs.Rest.{Unused}
use Rattle.faults.proofs.Ways.{slot_from}
use Rattle.faults.proofs.rest_unused.Given as goal

abbrev pub invariant-loop-i : goal.invariant-loop-i
invariant-loop-i l = Unused (slot_from l.polygon l.begin) l.n l.i
