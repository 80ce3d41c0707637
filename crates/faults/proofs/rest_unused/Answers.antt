use Rattle.faults.proofs.Rest.{unused_more, unused_all, unused_fails}
use Rattle.faults.proofs.Ways.{slot_from}
use Rattle.faults.proofs.rest_unused.Goals as goal

pub returns-then-slot : goal.returns-then-slot
returns-then-slot c =
    unused_fails (slot_from c.args.polygon.now c.args.begin) c.loop-i.auto.i (rw (← c.slots-i-end.ensures.0) c.loop-i-test.true)
    c.slot.ensures c.if-slot.true

pub loop-i-preserved : goal.loop-i-preserved
loop-i-preserved c = unused_more c.loop-i.invariant c.slot.ensures c.if-slot.false

pub returns : goal.returns
returns c = unused_all c.loop-i.invariant (rw (← c.slots-i-end.ensures.0) c.loop-i-test.false)
