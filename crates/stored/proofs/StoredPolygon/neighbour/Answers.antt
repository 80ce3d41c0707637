-- `StoredPolygon::neighbour` meets its contract: the neighbours' slots come after the corners'. Assumes nothing.
use Rattle.stored.proofs.Records.{neighbour_slot_by}
use Rattle.stored.proofs.StoredPolygon.neighbour.Goals as goal

pub returns : goal.returns
returns c = neighbour_slot_by _ c.slots.ensures.0 _ c.slot.ensures
