use Rattle.going.proofs.Rounds.{seed_begins, node_begins, some_found, entry_among, entry_counted}
use Rattle.going.proofs.begin.Goals as goal

-- ---- the seed

pub returns-then-node : goal.returns-then-node
returns-then-node c = seed_begins _ _ c.corner_count-n.ensures.0 c.if-node.true c.begin.ensures

-- ---- another node

pub unwrap-entry-requires : goal.unwrap-entry-requires
unwrap-entry-requires c = some_found _ c.args.node c.if-node.false c.requires _ c.slots-slots.ensures.0 _ c.place_of.ensures

pub count_on-n-requires : goal.count_on-n-requires
count_on-n-requires c =
    entry_counted _ c.args.node c.if-node.false c.requires _ c.slots-slots.ensures.0 _ c.place_of.ensures _ c.unwrap-entry.ensures

pub returns : goal.returns
returns c =
    node_begins _ _ c.count_on-n.ensures.0 c.if-node.false
    (entry_among _ c.args.node c.if-node.false c.requires _ c.slots-slots.ensures.0 _ c.place_of.ensures _ c.unwrap-entry.ensures)
    c.begin-2.ensures
