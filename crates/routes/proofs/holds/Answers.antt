use Rattle.std.proofs.Common.{eq-eqb, ne_eqb, sym, ◌∙◌, arith}
use Rattle.counts.proofs.Laws.{every_false, every_true}
use Rattle.routes.specs.Stored.{holds_of}
use Rattle.routes.proofs.holds.Goals as goal

pub returns-then-byte-byte_of : goal.returns-then-byte-byte_of
unfolding holds_of
returns-then-byte-byte_of c =
    sym (every_false _ _ c.loop-i.i (omega arith) (ne_eqb _ _ (λ e. c.if-byte-byte_of.true (e ∙ sym c.byte_of.ensures))))

pub returns : goal.returns
unfolding holds_of
returns c = sym (every_true _ _ (λ k l. eq-eqb _ _ (c.loop-i.invariant k (omega arith))))
