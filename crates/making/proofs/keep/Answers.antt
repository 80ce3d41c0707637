-- `making::keep` meets its contract. Assumes nothing.
use Rattle.machine.specs.Search.{took_record}
use Rattle.making.proofs.Keeping.{keeps_none, keeps_record, keeps_new, record_row, tree_on_distance, tree_on_record}
use Rattle.making.proofs.keep.Goals as goal

pub returns-then-record_distance-distance-clause-state_after : goal.returns-then-record_distance-distance-clause-state_after
returns-then-record_distance-distance-clause-state_after c =
    keeps_none _ _ _ _ c.requires.r_value c.if-r-records.true c.record_distance.ensures c.if-record_distance-distance.true

pub push-requires-clause-tree : goal.push-requires-clause-tree
push-requires-clause-tree c =
    rw (c.by_f.ensures.f_value, c.by_f.ensures.places) (tree_on_distance _ c.requires.fact.2 _ _ c.requires.tree _ _ c.put_distance.ensures)

pub returns-then-r-records-clause-state_after : goal.returns-then-r-records-clause-state_after
returns-then-r-records-clause-state_after c =
    keeps_record _ _ _ _ c.requires.r_value c.if-r-records.true c.record_distance.ensures c.if-record_distance-distance.false
    c.put_distance.ensures (rw (c.by_f.ensures.f_value, c.by_f.ensures.places) at c.push.ensures)

pub put_record-requires : goal.put_record-requires
put_record-requires c = record_row _ _ _ c.requires.r_value _ c.requires.fact.4 c.requires.fact.0

pub push-requires-2-clause-tree : goal.push-requires-2-clause-tree
push-requires-2-clause-tree c =
    rw (c.by_f-2.ensures.f_value, c.by_f-2.ensures.places) (tree_on_record _ c.requires.fact.2 _ _ c.requires.tree _ _ _ c.put_record.ensures)

pub returns-clause-state_after : goal.returns-clause-state_after
unfolding took_record
returns-clause-state_after c =
    keeps_new _ _ _ _ c.requires.r_value c.if-r-records.false c.put_record.ensures (rw (c.by_f-2.ensures.f_value, c.by_f-2.ensures.places) at c.push-2.ensures)
