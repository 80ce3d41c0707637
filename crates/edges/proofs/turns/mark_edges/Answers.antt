use Rattle.stored.proofs.Records.{ends_with_slots, goes_on}
use Rattle.edges.proofs.Inside.{has_edge}
use Rattle.edges.proofs.turns.mark_edges.Goals as goal

pub mark_edge-requires : goal.mark_edge-requires
mark_edge-requires c = has_edge c.requires _ (goes_on c.loop-i.invariant.upto c.loop-i-test.true c.corner.ensures c.if-corner.false)

pub returns : goal.returns
returns c = rw (ends_with_slots c.loop-i.invariant.upto c.loop-i-test.false) c.loop-i.invariant.so
