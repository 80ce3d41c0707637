-- `floor::look_at_neighbours` meets its contract: those before are right. Assumes nothing.
use Rattle.std.proofs.Common.{not}
use Rattle.stored.specs.Stored.{polygons_in}
use Rattle.faults.specs.Tests.{links_right}
use Rattle.floor.proofs.Ways.{Right}
use Rattle.floor.proofs.look_at_neighbours.Given as goal

abbrev pub invariant-loop-p : goal.invariant-loop-p
invariant-loop-p l = Right (λ k. not (links_right (polygons_in l.plan l.polygons) k)) l.p l.p-end
