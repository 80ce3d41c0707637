-- `queue::clear` meets its contract: a stored `none` moves the cleared front on by one. Assumes nothing.
use Rattle.std.proofs.Common.{◌<◌, length, arith}
use Rattle.queue.proofs.Lent.{cleared_none, cleared_one_more}
use Rattle.queue.proofs.clear.Goals as goal

pub loop-k-init : goal.loop-k-init
loop-k-init c = (omega arith, cleared_none c.args.words.now)

pub loop-k-preserved : goal.loop-k-preserved
loop-k-preserved c =
    let h : c.loop-k.k < length c.args.words.now = omega arith in
    (omega arith, rw c.loop-k.invariant.1 (cleared_one_more c.loop-k.k c.args.words.now h))
