-- `making::make_part` meets its contract. Assumes nothing.
use Rattle.std.proofs.Common.{ap, ◌∙◌}
use Rattle.stored.specs.Stored.{Polygon}
use Rattle.edges.specs.AcceptedFloor.{the_floor}
use Rattle.edges.proofs.Held.{ground}
use Rattle.view.specs.View.{step_by}
use Rattle.going.proofs.Stepping.{step_on}
use Rattle.machine.specs.Buffers.{state_in}
use Rattle.making.proofs.Parts.{made_by_step, made_by_none}
use Rattle.making.proofs.make_part.Goals as goal

pub returns-in-Some-clause-state_after : goal.returns-in-Some-clause-state_after
returns-in-Some-clause-state_after c =
    made_by_step (the_floor c.args.floor.now) c.args.task c.args.from
    (state_in c.args.work.now c.args.counts) c.make.ensures.state_after c.in-Some.is
    (step_on _ _ _ c.args.from.node c.requires.leaves.stands (ground c.args.floor.now.accepted) c.args.view c.requires.view_value c.args.successor _
    (c.step.ensures ∙ ap (λ (q : Polygon). step_by q c.args.view c.args.successor) c.requires.polygon_value.0))

pub returns-in-None-clause-state_after : goal.returns-in-None-clause-state_after
returns-in-None-clause-state_after c =
    made_by_none (the_floor c.args.floor.now) c.args.task c.args.from
    (state_in c.args.work.now c.args.counts) c.in-None.is
    (step_on _ _ _ c.args.from.node c.requires.leaves.stands (ground c.args.floor.now.accepted) c.args.view c.requires.view_value c.args.successor _
    (c.step.ensures ∙ ap (λ (q : Polygon). step_by q c.args.view c.args.successor) c.requires.polygon_value.0))
