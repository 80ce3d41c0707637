use Rattle.std.proofs.Common.{ap, not}
use Rattle.floor.proofs.Ways.{polygon_told, polygons_right_told, polygon_wrong_told}
use Rattle.floor.proofs.look_at_polygons.Goals as goal

pub returns-then-not-corners_right : goal.returns-then-not-corners_right
returns-then-not-corners_right c =
    let told = polygon_told c.requires c.polygon_count-p-end.ensures c.loop-p-test.true c.at.ensures c.vertex_count-vertices.ensures c.corners_right.ensures in
    polygon_wrong_told c.requires c.polygon_count-p-end.ensures _ c.loop-p.invariant c.loop-p-test.true told (ap not c.if-not-corners_right.true)

pub returns : goal.returns
returns c = polygons_right_told c.requires c.polygon_count-p-end.ensures _ c.loop-p.invariant c.loop-p-test.false
