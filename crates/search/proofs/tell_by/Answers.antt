-- `search::tell_by` meets its contract: what `tell` says whatever the queue holds, it says of the lent one. Assumes nothing.
use Rattle.search.proofs.tell_by.Goals as goal

pub returns : goal.returns
returns c =
    let queue = c.args.work.now.queue.now in
    record { answer = c.tell.ensures.answer queue; out_after = c.tell.ensures.out_after queue }
