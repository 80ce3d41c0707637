-- `StoredPolygon::corner_after` meets its contract: a slot behind the last counts as unused. Assumes nothing.
use Rattle.std.proofs.Common.{◌+◌, ◌≤◌, length}
use Rattle.stored.specs.Stored.{corner_after}
use Rattle.stored.proofs.Records.{corner_beyond}
use Rattle.stored.proofs.StoredPolygon.corner_after.Goals as goal

pub returns-then-slots-i : goal.returns-then-slots-i
unfolding corner_after
returns-then-slots-i c =
    let behind : length c.args.self.now.corners ≤ c.args.i + 1 = rw c.slots.ensures.0 at c.if-slots-i.true in
    rw (corner_beyond c.args.self.now _ behind) c.corner.ensures
