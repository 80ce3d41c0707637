-- `places::record_for` meets its contract: the first record that has this root is the one it stops at. Assumes nothing.
use Rattle.std.proofs.Common.{arith, below_more, ◌∙◌, sym}
use Rattle.point.specs.Point.{same_of}
use Rattle.places.proofs.Records.{found_here, found_nowhere}
use Rattle.places.proofs.record_for.Goals as goal

pub returns-then-eq : goal.returns-then-eq
unfolding same_of
returns-then-eq c =
    found_here _ _ _ _ (omega arith) c.loop-r.invariant (rw (← c.record_root.ensures) (sym c.eq.ensures ∙ c.if-eq.true))

pub loop-r-preserved : goal.loop-r-preserved
unfolding same_of
loop-r-preserved c = below_more _ _ c.loop-r.invariant (rw (← c.record_root.ensures) (sym c.eq.ensures ∙ c.if-eq.false))

pub returns : goal.returns
returns c = found_nowhere _ _ _ (λ k l. c.loop-r.invariant k (omega arith))
