-- `popping::search_from` meets its contract. Assumes nothing.
use Rattle.std.proofs.Common.{arith}
use Rattle.popping.proofs.Running.{made_sound, made_uncounted, searches_full, searches_on}
use Rattle.popping.proofs.search_from.Goals as goal

pub returns-then-made-clause-rest : goal.returns-then-made-clause-rest
returns-then-made-clause-rest c = searches_full c.requires c.set_out-made.ensures.made _ _ c.if-made.true

pub run-requires-clause-sound_from : goal.run-requires-clause-sound_from
run-requires-clause-sound_from c = made_sound c.requires c.set_out-made.ensures.made

pub run-requires-clause-budget_bound : goal.run-requires-clause-budget_bound
run-requires-clause-budget_bound c = omega (arith, made_uncounted c.requires c.set_out-made.ensures.made, c.ranges.budget.fits)

pub returns-clause-rest : goal.returns-clause-rest
returns-clause-rest c = searches_on c.requires c.set_out-made.ensures.made _ _ c.if-made.false c.run.ensures.rest
