-- `judge_route` meets its contract. The loop's invariant: the records so far lead to the node, and what is left to judge is the rest. Assumes nothing.
use Rattle.judge.proofs.Following.{Follows}
use Rattle.judge.proofs.judge_route.Given as goal

abbrev pub invariant-loop-i : goal.invariant-loop-i
invariant-loop-i l = Follows l.floor.plan.now l.floor.vertices.now l.floor.polygons.now l.trip l.route l.last l.node l.i
