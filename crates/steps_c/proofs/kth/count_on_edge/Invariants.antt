-- `kth::count_on_edge` meets its contract. The loop's invariant: the rest is counted off from part j on. Assumes nothing.
use Rattle.steps_c.proofs.Counting.{Counted-from}
use Rattle.steps_c.proofs.kth.count_on_edge.Given as goal

abbrev pub invariant-loop-j : goal.invariant-loop-j
invariant-loop-j l = Counted-from l.polygon l.view l.edge l.walked l.k l.rest l.j
