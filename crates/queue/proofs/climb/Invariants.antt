-- `queue::climb` meets its contract: what is left to be repaired is what was to be repaired. Assumes nothing.
use Rattle.queue.specs.Column.{f_of}
use Rattle.queue.proofs.Ways.{Climbing}
use Rattle.queue.proofs.climb.Given as goal

abbrev pub invariant-loop-k : goal.invariant-loop-k
invariant-loop-k l = Climbing (f_of l.column) l.column.places l.from l.initial.tree l.k l.tree

abbrev pub decreases-loop-k : goal.decreases-loop-k
decreases-loop-k l = l.k
