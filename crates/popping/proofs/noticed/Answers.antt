-- `popping::noticed` meets its contract. Assumes nothing.
use Rattle.popping.proofs.Watching.{notices_nothing, notices_rise, notices_stay}
use Rattle.popping.proofs.noticed.Goals as goal

pub returns-then-stall : goal.returns-then-stall
returns-then-stall c = notices_nothing _ _ c.if-stall.true

pub returns-then-stall-f : goal.returns-then-stall-f
returns-then-stall-f c = notices_rise _ _ c.if-stall.false c.if-stall-f.true

pub returns : goal.returns
returns c = notices_stay _ _ c.if-stall.false c.if-stall-f.false
