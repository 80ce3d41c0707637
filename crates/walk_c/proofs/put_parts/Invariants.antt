-- `walk_c::put_parts` meets its contract. The loop's invariant: out is what the first i parts make of it. Assumes nothing.
use Rattle.std.proofs.Common.{◌≡◌}
use Rattle.walk_c.specs.Walk.{parts_written}
use Rattle.walk_c.proofs.put_parts.Given as goal

abbrev pub invariant-loop-i : goal.invariant-loop-i
invariant-loop-i l = l.out ≡ parts_written l.parts l.i l.initial.out
