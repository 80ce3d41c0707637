use Rattle.std.proofs.Common.{refl, sym, ◌∙◌}
use Rattle.going.proofs.Rounds.{turning, its_polygon, walked_as_on}
use Rattle.going.proofs.Stepping.{edge_there, edge_inside}
use Rattle.making.proofs.Looping.{parts_begin, parts_over_lem, parts_full, parts_next, next_as, still_same}
use Rattle.making.proofs.make_edge.Goals as goal

pub edge-edge-requires : goal.edge-edge-requires
edge-edge-requires c =
    let t = turning _ _ _ c.args.from.node c.requires.leaves.stands c.args.round c.requires.goes.0 c.requires.goes.1 in
    (t.entry_in, t.taken_in)

pub walk-walked-requires : goal.walk-walked-requires
walk-walked-requires c =
    rw (c.edge-edge.ensures, c.requires.polygon_value)
    (edge_there _ _ _ c.args.from.node c.requires.leaves.stands c.args.round c.requires.goes.0 c.requires.goes.1)

pub loop-k-init : goal.loop-k-init
loop-k-init c =
    let here = c.requires.polygon_value ∙ sym (its_polygon _ _ _ c.args.from.node c.requires.leaves.stands) in (
      (refl, refl, refl),
      parts_begin c.args.round (walked_as_on _ c.args.from.node c.args.round here c.edge-edge.ensures c.walk-walked.ensures) c.requires.fit
          c.requires.leaves.leaving.on_record,
    )

pub make_part-made-requires-clause-polygon_value : goal.make_part-made-requires-clause-polygon_value
make_part-made-requires-clause-polygon_value c = (
  c.requires.polygon_value,
  rw (c.edge-edge.ensures, c.requires.polygon_value)
      (edge_inside _ _ _ c.args.from.node c.requires.leaves.stands c.args.round c.requires.goes.0 c.requires.goes.1),
)

pub returns-then-full-clause-full_after : goal.returns-then-full-clause-full_after
returns-then-full-clause-full_after c =
    let here = c.requires.polygon_value ∙ sym (its_polygon _ _ _ c.args.from.node c.requires.leaves.stands) in
    parts_full c.loop-k.invariant.1 c.loop-k-test.true c.make_part-made.ensures.state_after c.if-full.true c.edge-edge.ensures
    (walked_as_on _ c.args.from.node c.args.round here c.edge-edge.ensures c.walk-walked.ensures)

pub returns-then-full-clause-next_value : goal.returns-then-full-clause-next_value
returns-then-full-clause-next_value c =
    let here = c.requires.polygon_value ∙ sym (its_polygon _ _ _ c.args.from.node c.requires.leaves.stands) in
    next_as _ c.next-next.ensures (walked_as_on _ c.args.from.node c.args.round here c.edge-edge.ensures c.walk-walked.ensures)

pub loop-k-preserved : goal.loop-k-preserved
loop-k-preserved c = (
  still_same c.args.work.now c.loop-k.work c.make_part-made.new.work c.loop-k.invariant.0 c.make_part-made.ensures.buffers,
  parts_next c.loop-k.invariant.1 c.loop-k-test.true c.make_part-made.ensures.state_after c.if-full.false,
)

pub returns-clause-full_after : goal.returns-clause-full_after
returns-clause-full_after c =
    let here = c.requires.polygon_value ∙ sym (its_polygon _ _ _ c.args.from.node c.requires.leaves.stands) in
    parts_over_lem c.loop-k.invariant.1 c.loop-k-test.false c.edge-edge.ensures
    (walked_as_on _ c.args.from.node c.args.round here c.edge-edge.ensures c.walk-walked.ensures)

pub returns-clause-next_value : goal.returns-clause-next_value
returns-clause-next_value c =
    let here = c.requires.polygon_value ∙ sym (its_polygon _ _ _ c.args.from.node c.requires.leaves.stands) in
    next_as _ c.next-next.ensures (walked_as_on _ c.args.from.node c.args.round here c.edge-edge.ensures c.walk-walked.ensures)

pub returns-then-full-clause-buffers : goal.returns-then-full-clause-buffers
returns-then-full-clause-buffers c = still_same c.args.work.now c.loop-k.work c.make_part-made.new.work c.loop-k.invariant.0 c.make_part-made.ensures.buffers

pub returns-clause-buffers : goal.returns-clause-buffers
returns-clause-buffers c = c.loop-k.invariant.0
