-- `floor::look_at_polygons` meets its contract: those before are right. Assumes nothing.
use Rattle.std.proofs.Common.{not}
use Rattle.plan.specs.Plan.{vertex_count_in}
use Rattle.stored.specs.Stored.{polygon_in, polygons_in}
use Rattle.faults.specs.Tests.{corners_right}
use Rattle.floor.proofs.Ways.{Right}
use Rattle.floor.proofs.look_at_polygons.Given as goal

abbrev pub invariant-loop-p : goal.invariant-loop-p
invariant-loop-p l = Right (λ k. not (corners_right (vertex_count_in l.plan) (polygon_in (polygons_in l.plan l.polygons) k))) l.p l.p-end
