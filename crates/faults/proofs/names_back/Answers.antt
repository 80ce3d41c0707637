use Rattle.faults.proofs.Ways.{back_of_none, back_of_ended, back_here, none_here}
use Rattle.faults.proofs.names_back.Goals as goal

pub returns-then-corner : goal.returns-then-corner
returns-then-corner c = back_of_ended c.loop-j.invariant c.loop-j-test.true c.corner.ensures c.if-corner.true

pub returns-then-is_back : goal.returns-then-is_back
returns-then-is_back c = back_here c.loop-j.invariant c.loop-j-test.true c.corner.ensures c.if-corner.false c.is_back.ensures c.if-is_back.true

pub loop-j-preserved : goal.loop-j-preserved
loop-j-preserved c = none_here c.loop-j.invariant c.loop-j-test.true c.corner.ensures c.if-corner.false c.is_back.ensures c.if-is_back.false

pub returns : goal.returns
returns c = back_of_none c.loop-j.invariant c.loop-j-test.false
