-- `edges::turns::mark_edge` meets its contract: an edge's corner is inside the record. Assumes nothing.
use Rattle.edges.proofs.Inside.{slot_inside}
use Rattle.edges.proofs.turns.mark_edge.Goals as goal

pub across-requires : goal.across-requires
across-requires c = slot_inside _ _ c.requires.0

pub corner-a-requires : goal.corner-a-requires
corner-a-requires c = slot_inside _ _ c.requires.0

pub corner_after-b-requires : goal.corner_after-b-requires
corner_after-b-requires c = slot_inside _ _ c.requires.0
