-- `faults::names_back` meets its contract: up to the slot where it stands every slot is a corner's and no edge leads back. Assumes nothing.
use Rattle.faults.proofs.Ways.{NoneBack}
use Rattle.faults.proofs.names_back.Given as goal

abbrev pub invariant-loop-j : goal.invariant-loop-j
invariant-loop-j l = NoneBack l.polygon l.p l.a l.b l.j-end l.j
