-- `turns::mark_edges` meets its contract: it goes from corner to corner, and the ends of the walls so far are marked. Assumes nothing.
use Rattle.std.proofs.Common.{◌≡◌}
use Rattle.stored.proofs.Records.{Upto}
use Rattle.edges.specs.Where.{mark_edges}
use Rattle.edges.proofs.turns.mark_edges.Given as goal

-- the walls of the corners so far are marked
abbrev pub invariant-loop-i : goal.invariant-loop-i
invariant-loop-i l = record {
  upto : Upto l.polygon l.i-end l.i;
  so : l.marks ≡ mark_edges l.polygon l.i l.fn.marks;
}
