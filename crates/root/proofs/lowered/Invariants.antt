-- `root::lowered` meets its contract: the test that ends the loop is what it ensures. Nothing is asked of the guess but that its square fits. Assumes nothing.
use Rattle.std.proofs.Common.{◌<◌, ◌^◌}
use Rattle.root.proofs.lowered.Given as goal

abbrev pub invariant-loop-q : goal.invariant-loop-q
invariant-loop-q l = l.q < 2 ^ 25

abbrev pub decreases-loop-q : goal.decreases-loop-q
decreases-loop-q l = l.q
