-- `faults::unlike_earlier` meets its contract: those before are so. Assumes nothing.
use Rattle.std.proofs.Common.{eqb, not}
use Rattle.stored.specs.Stored.{corner}
use Rattle.faults.proofs.Ways.{Passed}
use Rattle.faults.proofs.unlike_earlier.Given as goal

abbrev pub invariant-loop-i : goal.invariant-loop-i
invariant-loop-i l = Passed (λ k. not (eqb (corner l.polygon k) (corner l.polygon l.j))) l.i l.j
