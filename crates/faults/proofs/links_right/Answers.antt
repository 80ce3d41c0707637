use Rattle.std.proofs.Common.{ap, not}
use Rattle.stored.proofs.Records.{record_slots}
use Rattle.faults.proofs.Ways.{links_all, links_behind, links_wrong, linked_more}
use Rattle.faults.proofs.links_right.Goals as goal

pub returns-then-corner : goal.returns-then-corner
returns-then-corner c =
    links_behind c.loop-i.invariant c.requires.0 c.requires.1 c.at-here.ensures c.slots-slots.ensures.1 c.loop-i-test.true c.corner.ensures
    c.if-corner.true c.rest_unused.ensures

pub link_right-requires : goal.link_right-requires
link_right-requires c =
    (c.requires.0, c.requires.1, rw (← record_slots _ _ _ c.at-here.ensures, ← c.slots-slots.ensures.0) c.loop-i-test.true)

pub returns-then-not-link_right : goal.returns-then-not-link_right
returns-then-not-link_right c =
    links_wrong c.loop-i.invariant c.requires.0 c.requires.1 c.at-here.ensures c.slots-slots.ensures.1 c.loop-i-test.true c.corner.ensures
    c.if-corner.false c.link_right.ensures (ap not c.if-not-link_right.true)

pub loop-i-preserved : goal.loop-i-preserved
loop-i-preserved c =
    linked_more c.loop-i.invariant c.requires.0 c.requires.1 c.at-here.ensures c.slots-slots.ensures.1 c.loop-i-test.true c.corner.ensures
    c.if-corner.false c.link_right.ensures (ap not c.if-not-link_right.false)

pub returns : goal.returns
returns c = links_all c.loop-i.invariant c.requires.0 c.requires.1 c.at-here.ensures c.slots-slots.ensures.1 c.loop-i-test.false
