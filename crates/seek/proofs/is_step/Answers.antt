use Rattle.std.proofs.Common.{sym, ◌∙◌}
use Rattle.going.proofs.Rounds.{its_polygon, entry_in_count}
use Rattle.seek.proofs.Seeking.{none_in_goal, seeking_begins, seeking_ends, edge_found, edge_passed, edge_fewer}
use Rattle.seek.proofs.is_step.Goals as goal

-- ---- before the loop

pub returns-then-node-goal : goal.returns-then-node-goal
returns-then-node-goal c = sym (none_in_goal _ c.args.goal c.args.node c.args.on_file.route.now c.args.on_file.number c.if-node-goal.true)

pub polygon-polygon-requires : goal.polygon-polygon-requires
polygon-polygon-requires c = c.requires.listed.listed

pub begin-round-requires : goal.begin-round-requires
begin-round-requires c =
    rw (c.polygon-polygon.ensures, its_polygon _ _ _ c.args.node c.requires) (entry_in_count _ _ _ c.args.node c.requires)

pub loop-polygon-init : goal.loop-polygon-init
loop-polygon-init c =
    seeking_begins _ _ _ c.args.node c.requires c.args.on_file.route.now c.args.on_file.number c.args.goal c.if-node-goal.false
    (rw (c.polygon-polygon.ensures, its_polygon _ _ _ c.args.node c.requires) at c.begin-round.ensures)

-- ---- an edge

pub look_on_edge-looked-requires-clause-its : goal.look_on_edge-looked-requires-clause-its
look_on_edge-looked-requires-clause-its c = c.polygon-polygon.ensures ∙ its_polygon _ _ _ c.args.node c.requires

pub returns-then-found : goal.returns-then-found
returns-then-found c =
    sym (edge_found _ _ _ c.args.node c.requires c.args.on_file.route.now c.args.on_file.number c.args.goal c.loop-polygon.round c.loop-polygon.invariant
    (sym c.is_over.ensures ∙ c.loop-polygon-test.true) (sym c.look_on_edge-looked.ensures.found_value ∙ c.if-found.true))

pub loop-polygon-smaller : goal.loop-polygon-smaller
loop-polygon-smaller c =
    edge_fewer _ _ _ c.args.node c.requires c.args.on_file.route.now c.args.on_file.number c.args.goal c.loop-polygon.round c.loop-polygon.invariant
    (sym c.is_over.ensures ∙ c.loop-polygon-test.true) c.look_on_edge-looked.ensures.next_value

pub loop-polygon-preserved : goal.loop-polygon-preserved
loop-polygon-preserved c =
    edge_passed _ _ _ c.args.node c.requires c.args.on_file.route.now c.args.on_file.number c.args.goal c.loop-polygon.round c.loop-polygon.invariant
    (sym c.is_over.ensures ∙ c.loop-polygon-test.true) (sym c.look_on_edge-looked.ensures.found_value ∙ c.if-found.false)
    c.look_on_edge-looked.ensures.next_value

-- ---- behind the last

pub returns : goal.returns
returns c =
    sym (seeking_ends _ _ _ c.args.node c.requires c.args.on_file.route.now c.args.on_file.number c.args.goal c.loop-polygon.round c.loop-polygon.invariant
    (sym c.is_over.ensures ∙ c.loop-polygon-test.false))
