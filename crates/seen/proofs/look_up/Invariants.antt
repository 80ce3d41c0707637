-- `seen::look_up` meets its contract: it has stopped at none of the entries passed. Assumes nothing.
use Rattle.seen.proofs.Scan.{Passed}
use Rattle.seen.proofs.look_up.Given as goal

abbrev pub invariant-loop : goal.invariant-loop
invariant-loop l = Passed l.table l.key l.entries l.j l.counter
