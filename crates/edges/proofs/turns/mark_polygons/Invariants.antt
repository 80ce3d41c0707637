use Rattle.std.proofs.Common.{◌≡◌}
use Rattle.stored.specs.Stored.{polygons_in}
use Rattle.edges.specs.Where.{mark_polygons}
use Rattle.edges.proofs.turns.mark_polygons.Given as goal

abbrev pub invariant-loop-p : goal.invariant-loop-p
invariant-loop-p l = l.marks ≡ mark_polygons (polygons_in l.plan l.polygons) l.p l.fn.marks
