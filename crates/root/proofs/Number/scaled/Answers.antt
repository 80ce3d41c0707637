-- `root::Number::scaled` meets its contract: a subnormal's digits are brought up by its leading zeros, and any other pattern has its 24 digits already. Assumes
-- nothing.
use Rattle.std.proofs.Common.{arith}
use Rattle.root.proofs.Digits.{zeros_ahead}
use Rattle.root.proofs.Patterns.{low_pattern_scale, high_pattern_scale}
use Rattle.root.proofs.Number.scaled.Goals as goal

pub overflow_sub-by : goal.overflow_sub-by
overflow_sub-by c = zeros_ahead _ (omega arith) (omega arith)

pub returns-then-field-eq0 : goal.returns-then-field-eq0
returns-then-field-eq0 c = low_pattern_scale c.args.bits c.requires.0 c.if-field-eq0.true

pub returns : goal.returns
returns c = high_pattern_scale c.args.bits c.requires.1 (omega arith)
