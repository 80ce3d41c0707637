-- `tell` meets its contract: the route where the search arrived, else how it ended. Assumes nothing.
use Rattle.writing.proofs.Written.{told_arrived, told_emptied, told_filled, told_stopped, told_crowded}
use Rattle.writing.proofs.tell.Goals as goal

-- ---- arrived

pub returns-in-Arrived : goal.returns-in-Arrived
returns-in-Arrived c =
    let t =
    told_arrived c.args.floats.now c.args.words.now c.args.trip c.args.ended.counts c.args.ended.finish c.args.out.now c.in-Arrived.is
    (c.write_route.ensures.answer, c.write_route.ensures.out_after) in
    record { answer = t.0; out_after = t.1 }

-- ---- how else it ended

pub returns-in-Emptied : goal.returns-in-Emptied
returns-in-Emptied c =
    let t = told_emptied c.args.floats.now c.args.words.now c.args.trip c.args.ended.counts c.args.ended.finish c.args.out.now c.in-Emptied.is in
    record { answer = t.0; out_after = t.1 }

pub returns-in-Filled : goal.returns-in-Filled
returns-in-Filled c =
    let t = told_filled c.args.floats.now c.args.words.now c.args.trip c.args.ended.counts c.args.ended.finish c.args.out.now c.in-Filled.is in
    record { answer = t.0; out_after = t.1 }

pub returns-in-Stopped : goal.returns-in-Stopped
returns-in-Stopped c =
    let t = told_stopped c.args.floats.now c.args.words.now c.args.trip c.args.ended.counts c.args.ended.finish c.args.out.now c.in-Stopped.is in
    record { answer = t.0; out_after = t.1 }

pub returns-in-Crowded : goal.returns-in-Crowded
returns-in-Crowded c =
    let t = told_crowded c.args.floats.now c.args.words.now c.args.trip c.args.ended.counts c.args.ended.finish c.args.out.now c.in-Crowded.is in
    record { answer = t.0; out_after = t.1 }
