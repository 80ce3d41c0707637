-- `StoredPolygon::count_on` meets its contract: it goes from corner to corner. Assumes nothing.
use Rattle.stored.proofs.Records.{Upto}
use Rattle.stored.proofs.StoredPolygon.count_on.Given as goal

abbrev pub invariant-loop-i : goal.invariant-loop-i
invariant-loop-i l = Upto l.self l.slots l.i
