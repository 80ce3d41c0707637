use Rattle.faults.proofs.Ways.{passed_all, passed_fails, earlier_told, corners_alike_here}
use Rattle.faults.proofs.unlike_earlier.Goals as goal

pub returns-then-corner-last : goal.returns-then-corner-last
returns-then-corner-last c =
    earlier_told _ _
    (passed_fails c.loop-i.invariant c.loop-i-test.true (corners_alike_here _ _ c.corner-last.ensures _ c.corner.ensures c.if-corner-last.true))

pub returns : goal.returns
returns c = earlier_told _ _ (passed_all c.loop-i.invariant c.loop-i-test.false)
