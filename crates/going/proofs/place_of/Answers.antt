use Rattle.std.proofs.Common.{ℕ, refl, arith}
use borrow.Author.Tests.{eq-eqb, lt-ltb, le-ltb}
use lib.Dec.{eqb}
use Rattle.counts.proofs.Laws.{first_is}
use Rattle.stored.specs.Stored.{corner}
use Rattle.steps.specs.Steps.{place_of}
use Rattle.going.proofs.place_of.Goals as goal

pub returns-then-corner-v : goal.returns-then-corner-v
unfolding place_of
returns-then-corner-v c =
    let here = λ (i : ℕ). eqb (corner c.args.polygon.now i) c.args.v in
    rw (
      first_is c.args.n here c.loop-i.i (omega arith) c.loop-i.invariant (λ l. rw (← c.corner.ensures, eq-eqb _ _ c.if-corner-v.true)),
      lt-ltb c.loop-i.i c.args.n (omega arith),
    ) refl

pub returns : goal.returns
unfolding place_of
returns c =
    let here = λ (i : ℕ). eqb (corner c.args.polygon.now i) c.args.v in
    rw (
      first_is c.args.n here c.args.n (omega arith) (λ k l. c.loop-i.invariant k (omega arith)) (λ l. absurd (omega arith)),
      le-ltb c.args.n c.args.n (omega arith),
    ) refl
