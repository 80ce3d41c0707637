-- `write_route` meets its contract: the end, the chain and the seed, and what stood behind them stays. Assumes nothing.
use Rattle.writing.proofs.Written.{route_told_short, route_told}
use Rattle.writing.proofs.write_route.Goals as goal

-- ---- no room

pub returns-then-out-bytes : goal.returns-then-out-bytes
returns-then-out-bytes c =
    let t = route_told_short _ _ _ _ _ _ c.depth_at-depth.ensures c.if-out-bytes.true in
    record { answer = t.0; out_after = t.1 }

-- ---- the end, the chain, the seed

pub returns : goal.returns
returns c =
    let t =
    route_told _ _ _ _ _ _ c.depth_at-depth.ensures c.if-out-bytes.false c.node_at-node.ensures c.end_after.ensures c.write.ensures
    c.write_chain.ensures c.seed.ensures c.write-2.ensures in
    record { answer = t.0; out_after = t.1 }
