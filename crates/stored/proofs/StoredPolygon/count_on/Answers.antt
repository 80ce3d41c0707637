use Rattle.std.proofs.Common.{sym, rules}
use Rattle.stored.proofs.Records.{all_slots, ends_here, upto_more, within_slots}
use Rattle.stored.proofs.StoredPolygon.count_on.Goals as goal

pub returns-then-corner : goal.returns-then-corner
returns-then-corner c =
    let upto = c.loop-i.invariant in
    (sym (ends_here upto c.loop-i-test.true c.corner.ensures c.if-corner.true), within_slots upto)

pub loop-i-preserved : goal.loop-i-preserved
loop-i-preserved c = search (rules, upto_more)

pub returns : goal.returns
returns c = all_slots c.loop-i.invariant c.loop-i-test.false
