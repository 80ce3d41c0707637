-- `judge_damaged::Asked::judge_changed` leaves each byte as it was. Assumes nothing.
use Rattle.std.proofs.Common.{◌≡◌}
use Rattle.judge_damaged.proofs.Asked.judge_changed.Given as goal

abbrev pub invariant-loop-i : goal.invariant-loop-i
invariant-loop-i g l = l.route ≡ l.fn.route
