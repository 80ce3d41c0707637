-- `reader::Reader::is_at` meets its contract: where no record is left this one is not there. Assumes nothing.
use Rattle.std.proofs.Common.{◌≡◌, arith, length, sym, ◌∙◌}
use Rattle.reader.proofs.Passed.{none_behind, one_here}
use Rattle.reader.proofs.Reader.is_at.Goals as goal

pub returns-then-left-eq0 : goal.returns-then-left-eq0
returns-then-left-eq0 c =
    let n : length c.args.sought.words ≡ 8 = omega arith in
    sym (none_behind c.args.sought c.args.self.route.now c.args.self.number n (sym c.left.ensures ∙ c.if-left-eq0.true))

pub invariant_of-here : goal.invariant_of-here
invariant_of-here c =
    record { inside = one_here c.args.self.route.now c.args.self.number (λ e. c.if-left-eq0.false (c.left.ensures ∙ e)) }
