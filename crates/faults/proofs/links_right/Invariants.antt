-- `faults::links_right` meets its contract: up to the slot where it stands every slot is a corner's and its link is right. Assumes nothing.
use Rattle.faults.proofs.Ways.{Linked}
use Rattle.faults.proofs.links_right.Given as goal

abbrev pub invariant-loop-i : goal.invariant-loop-i
invariant-loop-i l = Linked l.plan l.polygons l.here l.p l.slots l.i
