-- `popping::set_out` meets its contract. Assumes nothing.
use Rattle.popping.proofs.Running.{first_fit, first_leaves, first_apart, first_made}
use Rattle.popping.proofs.set_out.Goals as goal

pub make_steps-requires-clause-fit : goal.make_steps-requires-clause-fit
make_steps-requires-clause-fit c = first_fit c.requires c.seed-seed.ensures (c.plant.ensures.planted _)

pub make_steps-requires-clause-leaves : goal.make_steps-requires-clause-leaves
make_steps-requires-clause-leaves c = first_leaves c.requires c.seed-seed.ensures (c.plant.ensures.planted _)

pub make_steps-requires-clause-apart : goal.make_steps-requires-clause-apart
make_steps-requires-clause-apart c = first_apart c.requires c.seed-seed.ensures (c.plant.ensures.planted _)

pub returns-clause-made : goal.returns-clause-made
returns-clause-made c = first_made c.requires c.seed-seed.ensures (c.plant.ensures.planted _) c.make_steps.ensures.state_after
