-- `routes::holds` meets its contract. The loop's invariant: the bytes that were passed are those that must stand there. Assumes nothing.
use Rattle.std.proofs.Common.{◌≡◌, ℕ, ◌<◌, get_or}
use Rattle.routes.specs.Stored.{byte_of}
use Rattle.routes.proofs.holds.Given as goal

abbrev pub invariant-loop-i : goal.invariant-loop-i
invariant-loop-i l = (k : ℕ) → k < l.i → get_or l.out k 0 ≡ byte_of l.route k
