-- `steps_c::answer_on` meets its contract: what was tested stands on the floor. Assumes nothing.
use Rattle.std.proofs.Common.{◌∙◌, refl, sym}
use Rattle.edges.proofs.Held.{ground}
use Rattle.edges.proofs.Inside.{vertices_counted}
use Rattle.steps_c.specs.Ask.{answer_on}
use Rattle.steps_c.proofs.On.{on_stands}
use Rattle.steps_c.proofs.answer_on.Goals as goal

pub is_on-requires : goal.is_on-requires
is_on-requires c = (ground c.args.floor.now.accepted).polygons_planned

pub returns-then-not-is_on : goal.returns-then-not-is_on
unfolding answer_on
returns-then-not-is_on c = rw (vertices_counted (ground c.args.floor.now.accepted), ← c.is_on.ensures, c.if-not-is_on.true) refl

pub kth_step-requires : goal.kth_step-requires
kth_step-requires c = on_stands (ground c.args.floor.now.accepted) c.args.node (sym c.is_on.ensures ∙ c.if-not-is_on.false)

pub returns : goal.returns
unfolding answer_on
returns c =
    rw (vertices_counted (ground c.args.floor.now.accepted), ← c.is_on.ensures, c.if-not-is_on.false, ← c.kth_step.ensures) refl
