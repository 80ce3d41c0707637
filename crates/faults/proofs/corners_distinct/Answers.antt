use Rattle.std.proofs.Common.{ap, not}
use Rattle.faults.proofs.Ways.{passed_all, passed_fails, was_not, distinct_told}
use Rattle.faults.proofs.corners_distinct.Goals as goal

pub returns-then-not-unlike_earlier : goal.returns-then-not-unlike_earlier
returns-then-not-unlike_earlier c =
    distinct_told _ c.requires.1
    (passed_fails c.loop-j.invariant c.loop-j-test.true (was_not c.unlike_earlier.ensures (ap not c.if-not-unlike_earlier.true)))

pub returns : goal.returns
returns c = distinct_told _ c.requires.1 (passed_all c.loop-j.invariant c.loop-j-test.false)
