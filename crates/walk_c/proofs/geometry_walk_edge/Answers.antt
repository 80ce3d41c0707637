-- `walk_c::geometry_walk_edge` meets its contract: the number of parts and what is written are those of the asked kind's case, by what its callees
-- ensure. Assumes nothing.
use Rattle.std.proofs.Common.{arith}
use Rattle.walk_c.proofs.Written.{at_most_three, number_of_parts, written_parts}
use Rattle.walk_c.proofs.geometry_walk_edge.Goals as goal

pub put_parts-requires : goal.put_parts-requires
put_parts-requires c = at_most_three _ _ _ _ c.walk_edge-walked.ensures

pub overflow_cast-result : goal.overflow_cast-result
overflow_cast-result c = omega (arith, at_most_three _ _ _ _ c.walk_edge-walked.ensures)

pub returns-clause-value : goal.returns-clause-value
returns-clause-value c =
    rw (← c.kind_asked-asked.ensures, ← c.from_bits-root.ensures, ← c.segment-interval.ensures, ← c.segment.ensures)
    (number_of_parts _ _ _ _ c.walk_edge-walked.ensures c.in-Some.is)

pub returns-clause-out_after : goal.returns-clause-out_after
returns-clause-out_after c =
    rw (
      ← c.kind_asked-asked.ensures,
      ← c.from_bits-root.ensures,
      ← c.segment-interval.ensures,
      ← c.segment.ensures,
      c.kind_number.ensures,
      c.put_parts.ensures,
    ) (written_parts _ _ _ _ c.walk_edge-walked.ensures c.in-Some.is _)
