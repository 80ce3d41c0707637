-- `popping::watch` meets its contract. Assumes nothing.
use Rattle.std.proofs.Common.{◌∙◌}
use Rattle.popping.proofs.Watching.{notices_nothing, table_recorded, table_laid, table_waits}
use Rattle.popping.proofs.watch.Goals as goal

pub returns-then-stall-clause-value : goal.returns-then-stall-clause-value
returns-then-stall-clause-value c = notices_nothing _ _ c.if-stall.true

pub returns-then-stall-clause-table_after : goal.returns-then-stall-clause-table_after
returns-then-stall-clause-table_after c = table_recorded _ _ _ c.if-stall.true

pub returns-then-stall-2-clause-table_after : goal.returns-then-stall-2-clause-table_after
returns-then-stall-2-clause-table_after c = c.lay_out.ensures ∙ table_laid _ _ _ c.if-stall.false c.if-stall-2.true

pub returns-clause-table_after : goal.returns-clause-table_after
returns-clause-table_after c = table_waits _ _ _ c.if-stall.false c.if-stall-2.false
