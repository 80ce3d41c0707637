use Rattle.faults.proofs.Ways.{passed_all, passed_fails, passed_more, listed_here, unlisted_here, listed_told}
use Rattle.faults.proofs.corners_listed.Goals as goal

pub returns-then-vertices-corner : goal.returns-then-vertices-corner
returns-then-vertices-corner c =
    listed_told _ c.requires.1 _
    (passed_fails c.loop-i.invariant c.loop-i-test.true (unlisted_here _ c.requires.1 _ c.corner.ensures c.if-vertices-corner.true))

pub loop-i-preserved : goal.loop-i-preserved
loop-i-preserved c = passed_more c.loop-i.invariant c.loop-i-test.true (listed_here _ c.requires.1 _ c.corner.ensures c.if-vertices-corner.false)

pub returns : goal.returns
returns c = listed_told _ c.requires.1 _ (passed_all c.loop-i.invariant c.loop-i-test.false)
