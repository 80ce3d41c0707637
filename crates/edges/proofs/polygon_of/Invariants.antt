-- `edges::polygon_of` meets its contract: no polygon before contains the point. Assumes nothing.
use Rattle.std.proofs.Common.{◌≡◌, ◌<◌, ℕ, false}
use Rattle.edges.specs.Where.{contains}
use Rattle.edges.specs.AcceptedFloor.{the_floor}
use Rattle.edges.proofs.polygon_of.Given as goal

abbrev pub invariant-loop-p : goal.invariant-loop-p
invariant-loop-p l = (k : ℕ) → k < l.p → contains (the_floor l.floor) l.point k ≡ false
