-- `floor::look_at_vertices` meets its contract: those before are right. Assumes nothing.
use Rattle.std.proofs.Common.{get_or, not}
use Rattle.stored.specs.Stored.{vertices_of, origin}
use Rattle.faults.specs.Tests.{point_right}
use Rattle.floor.proofs.Ways.{Right}
use Rattle.floor.proofs.look_at_vertices.Given as goal

abbrev pub invariant-loop-v : goal.invariant-loop-v
invariant-loop-v l = Right (λ k. not (point_right (get_or (vertices_of l.vertices) k origin))) l.v l.v-end
