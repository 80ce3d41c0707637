use Rattle.std.proofs.Common.{◌<◌, ◌∙◌, sym, subst}
use Rattle.walk.specs.declared.round.Round.{Round}
use Rattle.stored.specs.Stored.{record_in, floor_in}
use Rattle.edges.proofs.Held.{ground}
use Rattle.going.specs.Going.{Yielded, Goes}
use Rattle.going.proofs.Rounds.{its_polygon, entry_in_count, walked_as_on, edges_left, begin_goes, next_goes, turning, fewer_left, on_yields}
use Rattle.going.proofs.Stepping.{edge_inside, edge_there}
use Rattle.steps_c.proofs.Counting.{none_in_goal, Counted-in, counting_begins, counting_ends, counting_finds, counting_goes_on}
use Rattle.steps_c.proofs.kth.kth_step.Goals as goal

-- ---- before the loop

pub returns-then-node-goal : goal.returns-then-node-goal
returns-then-node-goal c = sym (none_in_goal _ c.args.goal c.args.node c.args.k c.if-node-goal.true)

pub begin-round-requires : goal.begin-round-requires
begin-round-requires c =
    rw (c.polygon-polygon.ensures ∙ its_polygon _ _ _ c.args.node c.requires) (entry_in_count _ _ _ c.args.node c.requires)

pub loop-polygon-init : goal.loop-polygon-init
loop-polygon-init c =
    let node = c.args.node in
    let vs = c.args.floor.now.vertices.now in
    let ps = c.args.floor.now.polygons.now in
    let plan = c.args.floor.now.plan.now in
    let begins = rw (c.polygon-polygon.ensures ∙ its_polygon _ _ _ node c.requires) at c.begin-round.ensures in (
      c.new-view.ensures,
      subst (Goes (record_in plan ps node.polygon) node) (sym begins) (begin_goes plan vs ps node c.requires),
      subst (λ (r : Round). Counted-in (floor_in plan vs ps) c.args.goal node c.args.k r c.args.k) (sym begins)
          (counting_begins plan vs ps node c.requires c.args.goal c.args.k c.if-node-goal.false),
    )

-- ---- a turn

pub edge-edge-requires : goal.edge-edge-requires
edge-edge-requires c =
    let t = turning _ _ _ c.args.node c.requires c.loop-polygon.round c.loop-polygon.invariant.1 (sym c.is_over.ensures ∙ c.loop-polygon-test.true) in
    (t.entry_in, t.taken_in)

pub walk-walked-requires : goal.walk-walked-requires
walk-walked-requires c =
    rw (c.polygon-polygon.ensures ∙ its_polygon _ _ _ c.args.node c.requires, c.edge-edge.ensures)
    (edge_there _ _ _ c.args.node c.requires c.loop-polygon.round c.loop-polygon.invariant.1 (sym c.is_over.ensures ∙ c.loop-polygon-test.true))

pub count_on_edge-requires : goal.count_on_edge-requires
count_on_edge-requires c =
    let node = c.args.node in
    let round = c.loop-polygon.round in
    let walks = walked_as_on _ node round c.polygon-polygon.ensures c.edge-edge.ensures c.walk-walked.ensures in (
      rw (c.polygon-polygon.ensures ∙ its_polygon _ _ _ node c.requires, c.edge-edge.ensures)
          (edge_inside _ _ _ node c.requires round c.loop-polygon.invariant.1 (sym c.is_over.ensures ∙ c.loop-polygon-test.true)),
      subst Yielded (sym walks) (on_yields _ node round),
    )

pub returns-in-Ok : goal.returns-in-Ok
returns-in-Ok c =
    let node = c.args.node in
    let round = c.loop-polygon.round in
    let walks = walked_as_on _ node round c.polygon-polygon.ensures c.edge-edge.ensures c.walk-walked.ensures in
    let counts = rw (c.polygon-polygon.ensures ∙ its_polygon _ _ _ node c.requires) at c.count_on_edge.ensures in
    sym (counting_finds _ _ _ node c.requires c.args.goal c.args.k round c.loop-polygon.left c.loop-polygon.invariant.2 (ground c.args.floor.now.accepted)
    c.loop-polygon.invariant.1 (sym c.is_over.ensures ∙ c.loop-polygon-test.true) _ c.loop-polygon.invariant.0 _ walks _ c.edge-edge.ensures _
    counts _ c.in-Ok.is)

pub loop-polygon-smaller : goal.loop-polygon-smaller
loop-polygon-smaller c =
    let round = c.loop-polygon.round in
    subst (λ (r : Round). edges_left r < edges_left round) (sym c.next-round.ensures)
    (fewer_left _ _ _ c.args.node c.requires round c.loop-polygon.invariant.1 (sym c.is_over.ensures ∙ c.loop-polygon-test.true) _)

pub loop-polygon-preserved : goal.loop-polygon-preserved
loop-polygon-preserved c =
    let node = c.args.node in
    let round = c.loop-polygon.round in
    let on = sym c.is_over.ensures ∙ c.loop-polygon-test.true in
    let walks = walked_as_on _ node round c.polygon-polygon.ensures c.edge-edge.ensures c.walk-walked.ensures in
    let counts = rw (c.polygon-polygon.ensures ∙ its_polygon _ _ _ node c.requires) at c.count_on_edge.ensures in (
      c.loop-polygon.invariant.0,
      subst (Goes (record_in c.args.floor.now.plan.now c.args.floor.now.polygons.now node.polygon) node) (sym c.next-round.ensures)
          (next_goes _ _ _ node c.requires round c.loop-polygon.invariant.1 on _),
      counting_goes_on _ _ _ node c.requires c.args.goal c.args.k round c.loop-polygon.left c.loop-polygon.invariant.2 (ground c.args.floor.now.accepted)
          c.loop-polygon.invariant.1 on _ c.loop-polygon.invariant.0 _ walks _ c.edge-edge.ensures _ counts _ c.in-Err.is _ c.next-round.ensures,
    )

-- ---- behind the last

pub returns : goal.returns
returns c =
    sym (counting_ends _ _ _ c.args.node c.requires c.args.goal c.args.k c.loop-polygon.round c.loop-polygon.left c.loop-polygon.invariant.2
    (sym c.is_over.ensures ∙ c.loop-polygon-test.false))
