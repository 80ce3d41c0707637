-- `edges::contains` meets its contract: each way is one of proofs/Containing. Assumes nothing.
use Rattle.stored.specs.Stored.{vertices_of}
use Rattle.edges.proofs.Containing.{NotRight}
use Rattle.edges.proofs.contains.Given as goal

abbrev pub invariant-loop-i : goal.invariant-loop-i
invariant-loop-i l = NotRight (vertices_of l.vertices) l.polygon l.point l.slots l.i
