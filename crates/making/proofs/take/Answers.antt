-- `making::take` meets its contract. Assumes nothing.
use native.Mathlib.Omega.{arith}
use Rattle.places.proofs.Records.{record_for_le}
use Rattle.machine.specs.Buffers.{state_in}
use Rattle.machine.specs.Search.{took_place}
use Rattle.making.proofs.Keeping.{still_found, tree_on_node, takes}
use Rattle.making.proofs.take.Goals as goal

pub overflow_cast-number : goal.overflow_cast-number
overflow_cast-number c =
    let least = record_for_le c.args.work.now.floats.now c.args.counts.records c.args.node.root in
    omega (arith, least, c.number_for-number.ensures, c.requires.fit, c.requires.fact)

pub keep-requires-clause-r_value : goal.keep-requires-clause-r_value
keep-requires-clause-r_value c = still_found _ _ _ _ _ c.number_for-number.ensures c.put_floats.ensures

pub keep-requires-clause-tree : goal.keep-requires-clause-tree
keep-requires-clause-tree c =
    tree_on_node {s = state_in c.args.work.now c.args.counts} c.requires.fit _ _ c.put_floats.ensures

pub returns-clause-state_after : goal.returns-clause-state_after
unfolding took_place
returns-clause-state_after c = takes _ _ _ _ _ _ c.number_for-number.ensures c.put_floats.ensures c.put_words.ensures c.keep.ensures.state_after
