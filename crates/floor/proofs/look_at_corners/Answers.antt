-- `floor::look_at_corners` meets its contract: each way is one of proofs/Ways. Assumes nothing.
use Rattle.std.proofs.Common.{ap, not, arith}
use Rattle.floor.proofs.Planned.{vertices_laid, polygons_laid}
use Rattle.floor.proofs.Ways.{both_whole, records_told, records_laid}
use Rattle.floor.proofs.look_at_corners.Goals as goal

pub look_at_records-requires : goal.look_at_records-requires
look_at_records-requires c =
    let whole = both_whole 8 _ _ c.length_right.ensures (ap not c.if-not-length_right.false) c.length_right-2.ensures (ap not c.if-not-length_right-2.false) in
    (vertices_laid 8 _ _ (omega arith) (omega arith) whole c.lay.ensures, polygons_laid 8 _ _ (omega arith) (omega arith) whole c.lay.ensures)

pub returns-clause-value : goal.returns-clause-value
returns-clause-value c =
    let whole = both_whole 8 _ _ c.length_right.ensures (ap not c.if-not-length_right.false) c.length_right-2.ensures (ap not c.if-not-length_right-2.false) in
    records_told 8 _ _ whole c.lay.ensures c.look_at_records.ensures

pub returns-clause-plan_after : goal.returns-clause-plan_after
returns-clause-plan_after c =
    let whole = both_whole 8 _ _ c.length_right.ensures (ap not c.if-not-length_right.false) c.length_right-2.ensures (ap not c.if-not-length_right-2.false) in
    records_laid 8 _ _ whole c.lay.ensures _
