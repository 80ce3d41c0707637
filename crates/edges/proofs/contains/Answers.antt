use Rattle.edges.proofs.Inside.{has_edge}
use Rattle.edges.proofs.Containing.{in_by_all}
use Rattle.edges.proofs.contains.Goals as goal

pub is_right-requires : goal.is_right-requires
is_right-requires c = has_edge c.requires _ (c.loop-i.invariant.inside c.loop-i-test.true)

pub returns : goal.returns
returns c = in_by_all c.loop-i.invariant c.loop-i-test.false
