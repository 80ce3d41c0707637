use Rattle.std.proofs.Common.{refl, ◌∙◌}
use mathlib.Core.Path.{ap}
use mathlib.Core.Bool.{not}
use Rattle.edges.proofs.Held.{ground}
use Rattle.going.proofs.Rounds.{its_polygon, entry_in_count}
use Rattle.making.proofs.Looping.{loops_begin, loops_over, loops_full, loops_next, loops_less, still_same}
use Rattle.making.proofs.make_steps.Goals as goal

pub polygon-polygon-requires : goal.polygon-polygon-requires
polygon-polygon-requires c = c.requires.leaves.stands.listed.listed

pub begin-round-requires : goal.begin-round-requires
begin-round-requires c =
    rw (c.polygon-polygon.ensures ∙ its_polygon _ _ _ c.args.from.node c.requires.leaves.stands)
    (entry_in_count _ _ _ c.args.from.node c.requires.leaves.stands)

pub loop-polygon-init : goal.loop-polygon-init
loop-polygon-init c = (
  (refl, refl, refl),
  loops_begin (ground c.args.floor.now.accepted) c.requires.leaves c.requires.fit c.requires.apart
      (rw (c.polygon-polygon.ensures ∙ its_polygon _ _ _ c.args.from.node c.requires.leaves.stands) at c.begin-round.ensures),
)

pub make_edge-edged-requires-clause-polygon_value : goal.make_edge-edged-requires-clause-polygon_value
make_edge-edged-requires-clause-polygon_value c = c.polygon-polygon.ensures ∙ its_polygon _ _ _ c.args.from.node c.requires.leaves.stands

pub returns-then-full-clause-state_after : goal.returns-then-full-clause-state_after
returns-then-full-clause-state_after c =
    loops_full c.loop-polygon.invariant.1 c.is_over.ensures (ap not c.loop-polygon-test.true) c.make_edge-edged.ensures.full_after c.if-full.true

pub loop-polygon-smaller : goal.loop-polygon-smaller
loop-polygon-smaller c = loops_less c.loop-polygon.invariant.1 c.is_over.ensures (ap not c.loop-polygon-test.true) _ c.make_edge-edged.ensures.next_value

pub loop-polygon-preserved : goal.loop-polygon-preserved
loop-polygon-preserved c = (
  still_same c.args.work.now c.loop-polygon.work c.make_edge-edged.new.work c.loop-polygon.invariant.0 c.make_edge-edged.ensures.buffers,
  loops_next c.loop-polygon.invariant.1 c.is_over.ensures (ap not c.loop-polygon-test.true) c.make_edge-edged.ensures.full_after c.if-full.false
      c.make_edge-edged.ensures.next_value,
)

pub returns-clause-state_after : goal.returns-clause-state_after
returns-clause-state_after c = loops_over c.loop-polygon.invariant.1 c.is_over.ensures (ap not c.loop-polygon-test.false)

pub returns-then-full-clause-buffers : goal.returns-then-full-clause-buffers
returns-then-full-clause-buffers c =
    still_same c.args.work.now c.loop-polygon.work c.make_edge-edged.new.work c.loop-polygon.invariant.0 c.make_edge-edged.ensures.buffers

pub returns-clause-buffers : goal.returns-clause-buffers
returns-clause-buffers c = c.loop-polygon.invariant.0
