use Rattle.floor.proofs.Ways.{links_right_told}
use Rattle.floor.proofs.look_at_neighbours.Goals as goal

pub returns : goal.returns
returns c = links_right_told c.requires c.polygon_count-p-end.ensures c.loop-p.invariant c.loop-p-test.false
