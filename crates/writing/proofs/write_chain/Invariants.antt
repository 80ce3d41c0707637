-- `write_chain` meets its contract: each turn writes one step of the chain, and goes on to the place before it. Assumes nothing.
use Rattle.writing.proofs.Chaining.{Chaining}
use Rattle.writing.proofs.write_chain.Given as goal

abbrev pub invariant-loop-k : goal.invariant-loop-k
invariant-loop-k l = Chaining l.floats l.words l.depth l.i l.fn.out l.out l.place l.k
