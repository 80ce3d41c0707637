-- `root::pattern_root` meets its contract: the nearest whole root of what is kept, behind the digits that are dropped, is the answer's pattern. Assumes
-- nothing.
use Rattle.std.proofs.Common.{arith}
use Rattle.root.proofs.Digits.{left_low, left_high}
use Rattle.root.proofs.Patterns.{answer_is_root}
use Rattle.root.proofs.pattern_root.Goals as goal

pub nearest-q-requires : goal.nearest-q-requires
nearest-q-requires c =
    let s = c.scaled-number.ensures in
    rw c.kept.ensures (omega (arith, left_low s), left_high s, c.guess.ensures)

pub returns : goal.returns
returns c = answer_is_root c.scaled-number.ensures (rw c.kept.ensures at c.nearest-q.ensures)
