-- `seek::turns_at` meets its contract by what its callees ensure. Assumes nothing.
use Rattle.std.proofs.Common.{◌/◌, ◌<◌, length, arith}
use Rattle.stored.proofs.Records.{vertex_used}
use Rattle.edges.proofs.Held.{ground}
use Rattle.seek.specs.Seek.{turns_at}
use Rattle.seek.proofs.turns_at.Goals as goal

pub used_vertex-at-requires : goal.used_vertex-at-requires
used_vertex-at-requires c = omega (arith, (ground c.args.floor.now.accepted).vertices_planned.counted)

pub returns-then-lands_on : goal.returns-then-lands_on
unfolding turns_at
returns-then-lands_on c =
    let listed : c.args.v < length c.args.floor.now.vertices.now / 8 = omega (arith, (ground c.args.floor.now.accepted).vertices_planned.counted) in
    rw (vertex_used c.args.floor.now.vertices.now c.args.v listed, ← c.used_vertex-at.ensures, ← c.lands_on.ensures, c.if-lands_on.true) c.turns.ensures

pub returns-else-lands_on : goal.returns-else-lands_on
unfolding turns_at
returns-else-lands_on c =
    let listed : c.args.v < length c.args.floor.now.vertices.now / 8 = omega (arith, (ground c.args.floor.now.accepted).vertices_planned.counted) in
    rw (vertex_used c.args.floor.now.vertices.now c.args.v listed, ← c.used_vertex-at.ensures, ← c.lands_on.ensures, c.if-lands_on.false)
