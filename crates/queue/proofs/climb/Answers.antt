-- `queue::climb` meets its contract: where a word stays what it was nothing is left to be repaired. Assumes nothing.
use Rattle.queue.proofs.Ways.{climb_stays}
use Rattle.queue.proofs.climb.Goals as goal

pub returns-then-repair : goal.returns-then-repair
returns-then-repair c = climb_stays c.loop-k.invariant c.loop-k-test.true c.repair.ensures.words c.repair.ensures.answer c.if-repair.true
