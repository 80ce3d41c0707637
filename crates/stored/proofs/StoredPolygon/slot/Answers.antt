-- `StoredPolygon::slot` meets its contract: the slot is inside the list. Assumes nothing.
use Rattle.std.proofs.Common.{rules}
use Rattle.stored.proofs.Records.{slot_within_by, slot_read_by}
use Rattle.stored.proofs.StoredPolygon.slot.Goals as goal

pub overflow_mul-i : goal.overflow_mul-i
overflow_mul-i c = search (rules, slot_within_by _ _ _ c.self.view_is c.slots.ensures c.requires c.self.invariant.1)

pub overflow_add-self-inside : goal.overflow_add-self-inside
overflow_add-self-inside c = search (rules, slot_within_by _ _ _ c.self.view_is c.slots.ensures c.requires c.self.invariant.1)

pub read-requires : goal.read-requires
read-requires c = slot_within_by _ _ _ c.self.view_is c.slots.ensures c.requires c.self.invariant.1

pub returns : goal.returns
returns c = slot_read_by _ _ _ c.self.view_is c.slots.ensures c.requires c.read.ensures
