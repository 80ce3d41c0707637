-- `faults::corners_listed` meets its contract: those before are so. Assumes nothing.
use Rattle.std.proofs.Common.{ltb}
use Rattle.stored.specs.Stored.{corner}
use Rattle.faults.proofs.Ways.{Passed}
use Rattle.faults.proofs.corners_listed.Given as goal

abbrev pub invariant-loop-i : goal.invariant-loop-i
invariant-loop-i l = Passed (λ k. ltb (corner l.polygon k) l.vertices) l.i l.n
