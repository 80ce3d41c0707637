-- `queue::clear` meets its contract: the words passed are `none`. Assumes nothing.
use Rattle.std.proofs.Common.{◌≤◌, ◌≡◌}
use Rattle.queue.specs.Words.{cleared}
use Rattle.queue.proofs.clear.Given as goal

abbrev pub invariant-loop-k : goal.invariant-loop-k
invariant-loop-k l = (l.k ≤ l.m) × (l.words ≡ cleared l.k l.initial.words)
