-- `faults::corners_right` meets its contract: each way is one of proofs/Ways. Assumes nothing.
use Rattle.faults.proofs.Ways.{corners_few, corners_behind, corners_alike, corners_by_numbers}
use Rattle.faults.proofs.corners_right.Goals as goal

pub returns-then-corners_distinct : goal.returns-then-corners_distinct
returns-then-corners_distinct c =
    corners_by_numbers _ c.corner_count-n.ensures.0 _ c.if-n-ge3.true c.rest_unused.ensures
    c.if-rest_unused.true c.corners_distinct.ensures c.if-corners_distinct.true c.corners_listed.ensures

pub returns-else-corners_distinct : goal.returns-else-corners_distinct
returns-else-corners_distinct c =
    corners_alike _ c.corner_count-n.ensures.0 _ c.if-n-ge3.true c.rest_unused.ensures c.if-rest_unused.true
    c.corners_distinct.ensures c.if-corners_distinct.false

pub returns-else-rest_unused : goal.returns-else-rest_unused
returns-else-rest_unused c =
    corners_behind _ c.corner_count-n.ensures.0 _ c.if-n-ge3.true c.rest_unused.ensures c.if-rest_unused.false

pub returns-else-n-ge3 : goal.returns-else-n-ge3
returns-else-n-ge3 c = corners_few _ c.corner_count-n.ensures.0 _ c.if-n-ge3.false
