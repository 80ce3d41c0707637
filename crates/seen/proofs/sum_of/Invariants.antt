-- `seen::sum_of` meets its contract: after k turns it is the sum of the first k words. Assumes nothing.
use Rattle.std.proofs.Common.{◌≡◌}
use Rattle.seen.specs.Table.{sum_to}
use Rattle.seen.proofs.sum_of.Given as goal

abbrev pub invariant-loop-word : goal.invariant-loop-word
invariant-loop-word l = l.sum ≡ sum_to l.key l.word-index
