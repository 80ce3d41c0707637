-- `judge_end` meets its contract. Assumes nothing.
use Rattle.std.proofs.Common.{sym}
use Rattle.judge.proofs.Ending.{end_is, end_is_not, end_outside}
use Rattle.judge.proofs.judge_end.Goals as goal

pub returns-then-is : goal.returns-then-is
returns-then-is c = sym (end_is _ _ _ _ c.if-node-trip.true c.ending-ending.ensures c.end-end.ensures c.is.ensures c.if-is.true)

pub returns-then-node-trip : goal.returns-then-node-trip
returns-then-node-trip c = sym (end_is_not _ _ _ _ c.if-node-trip.true c.ending-ending.ensures c.end-end.ensures c.is.ensures c.if-is.false)

pub returns : goal.returns
returns c = sym (end_outside _ _ _ _ c.if-node-trip.false)
