use Rattle.std.proofs.Common.{sym, arith, ne_eqb}
use Rattle.counts.proofs.Laws.{every_true, every_false}
use Rattle.seen.specs.Table.{entry_word, holds}
use Rattle.seen.proofs.holds.Goals as goal

pub returns-then-table-row : goal.returns-then-table-row
unfolding entry_word holds
returns-then-table-row c = sym (every_false _ _ c.loop-k.k (omega arith) (ne_eqb _ _ c.if-table-row.true))

pub returns : goal.returns
unfolding holds
returns c = sym (every_true _ _ (λ m l. c.loop-k.invariant.equal m (omega arith)))
