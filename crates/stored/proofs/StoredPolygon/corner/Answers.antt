-- `StoredPolygon::corner` meets its contract: the corners' slots come first. Assumes nothing.
use Rattle.std.proofs.Common.{◌∙◌}
use Rattle.stored.proofs.Records.{corner_slot}
use Rattle.stored.proofs.StoredPolygon.corner.Goals as goal

pub returns : goal.returns
returns c = c.slot.ensures ∙ corner_slot _ _ c.requires
