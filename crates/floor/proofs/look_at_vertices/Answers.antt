use Rattle.floor.proofs.Ways.{vertices_right_told}
use Rattle.floor.proofs.look_at_vertices.Goals as goal

pub returns : goal.returns
returns c = vertices_right_told _ c.loop-v.invariant c.requires c.vertex_count-v-end.ensures c.loop-v-test.false
