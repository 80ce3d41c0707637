-- `readout::list_route` meets its contract: the end record has the number of points. Assumes nothing.
use Rattle.std.proofs.Common.{arith, ◌∙◌}
use Rattle.route.specs.Record.{records}
use Rattle.route.proofs.Turns.{length_gives}
use Rattle.readout.proofs.Answered.{short_is, listed_is}
use Rattle.readout.proofs.list_route.Goals as goal

pub overflow_sub-last : goal.overflow_sub-last
overflow_sub-last c = omega (arith, length_gives _ c.requires.whole)

pub invariant_of-end : goal.invariant_of-end
invariant_of-end c = record { inside = omega (arith, length_gives _ c.requires.whole) }

-- ---- no room

pub returns-then-points-count-clause-result_value : goal.returns-then-points-count-clause-result_value
unfolding records
returns-then-points-count-clause-result_value c =
    (short_is _ c.args.points.now _ (c.points-count.ensures ∙ c.requires.counted) c.if-points-count.true).0

pub returns-then-points-count-clause-points_after : goal.returns-then-points-count-clause-points_after
unfolding records
returns-then-points-count-clause-points_after c =
    (short_is _ c.args.points.now _ (c.points-count.ensures ∙ c.requires.counted) c.if-points-count.true).1

-- ---- room

pub returns-clause-result_value : goal.returns-clause-result_value
unfolding records
returns-clause-result_value c =
    (listed_is _ c.args.points.now _ (c.points-count.ensures ∙ c.requires.counted) _ c.if-points-count.false c.list_points.ensures).0

pub returns-clause-points_after : goal.returns-clause-points_after
unfolding records
returns-clause-points_after c =
    (listed_is _ c.args.points.now _ (c.points-count.ensures ∙ c.requires.counted) _ c.if-points-count.false c.list_points.ensures).1
