use Rattle.edges.proofs.Held.{ground}
use Rattle.edges.proofs.Finding.{none_more, found_none}
use Rattle.edges.proofs.polygon_of.Goals as goal

pub loop-p-preserved : goal.loop-p-preserved
loop-p-preserved c =
    none_more (ground c.args.floor.now.accepted) _ c.polygon_count-p-end.ensures c.loop-p.invariant c.polygon.ensures c.contains.ensures c.if-contains.false

pub returns : goal.returns
returns c = found_none (ground c.args.floor.now.accepted) _ c.polygon_count-p-end.ensures c.loop-p.invariant c.loop-p-test.false c.loop-p.auto.p-end
