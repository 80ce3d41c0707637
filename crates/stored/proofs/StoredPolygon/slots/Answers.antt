-- `StoredPolygon::slots` meets its contract: both lists are as long as the plan says. Assumes nothing.
use Rattle.stored.proofs.Records.{slots_told}
use Rattle.stored.proofs.StoredPolygon.slots.Goals as goal

pub returns : goal.returns
returns c = rw (← c.self.view_is) (slots_told _ _ _ c.slots.ensures c.self.invariant.0)
