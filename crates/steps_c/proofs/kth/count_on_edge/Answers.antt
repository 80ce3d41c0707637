use Rattle.std.proofs.Common.{sym, add-one, arith}
use Rattle.steps_c.proofs.Counting.{parts_end, part_finds, part_goes_on}
use Rattle.steps_c.proofs.kth.count_on_edge.Goals as goal

pub returns-in-Ok : goal.returns-in-Ok
returns-in-Ok c =
    let s = c.args in
    sym (part_finds s.polygon.now s.view s.edge _ c.requires.1 s.k c.loop-j.rest c.loop-j.j c.loop-j.invariant (omega arith) _ _
    c.step-permitted.ensures c.count_off.ensures _ c.in-Ok.is)

pub loop-j-preserved : goal.loop-j-preserved
loop-j-preserved c =
    let s = c.args in
    rw (add-one c.loop-j.j)
    (part_goes_on s.polygon.now s.view s.edge _ c.requires.1 s.k c.loop-j.rest c.loop-j.j c.loop-j.invariant (omega arith) _ _
    c.step-permitted.ensures c.count_off.ensures _ c.in-Err.is)

pub returns : goal.returns
returns c =
    let s = c.args in
    sym (parts_end s.polygon.now s.view s.edge _ c.requires.1 s.k c.loop-j.rest c.loop-j.j c.loop-j.invariant (omega arith))
