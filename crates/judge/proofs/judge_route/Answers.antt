use Rattle.std.proofs.Common.{◌∙◌, refl, sym, ap, arith}
use Rattle.stored.specs.Stored.{vertices_of}
use Rattle.edges.specs.AcceptedFloor.{the_floor}
use Rattle.edges.proofs.Held.{ground}
use Rattle.route.proofs.Turns.{length_gives, begins_length, begins_wrong}
use Rattle.reader.proofs.Passed.{begins_tested}
use Rattle.steps.specs.Steps.{enter}
use Rattle.steps.specs.World.{world_in}
use Rattle.seek.proofs.Reading.{found_standing, missing_standing}
use Rattle.judge.proofs.Following.{follows_begin, follows_on, follows_stops, follows_ends}
use Rattle.judge.proofs.judge_route.Goals as goal

-- ---- before the loop

pub returns-then-not-length_right : goal.returns-then-not-length_right
returns-then-not-length_right c = sym (begins_length _ _ (sym c.length_right.ensures ∙ c.if-not-length_right.true))

pub returns-then-not-begins_with : goal.returns-then-not-begins_with
unfolding world_in
returns-then-not-begins_with c =
    sym (begins_wrong (world_in (the_floor c.args.floor.now) c.args.trip) _ (sym c.length_right.ensures ∙ c.if-not-length_right.false)
    (begins_tested _ _ _ c.seed-seed.ensures c.begins_with.ensures ∙ c.if-not-begins_with.true))

pub overflow_sub-last : goal.overflow_sub-last
overflow_sub-last c = omega (arith, length_gives c.args.route.now (sym c.length_right.ensures ∙ c.if-not-length_right.false))

pub loop-i-init : goal.loop-i-init
loop-i-init c =
    follows_begin (ground c.args.floor.now.accepted) c.args.trip _ _ refl c.requires (sym c.length_right.ensures ∙ c.if-not-length_right.false)
    (begins_tested _ _ _ c.seed-seed.ensures c.begins_with.ensures ∙ c.if-not-begins_with.false) c.seed-node.ensures

-- ---- a record

pub returns-then-not-is_step : goal.returns-then-not-is_step
returns-then-not-is_step c =
    let s = c.args in
    sym (follows_stops (ground s.floor.now.accepted) s.trip _ c.loop-i.invariant c.loop-i-test.true
    (missing_standing _ (λ n. (c.type_inv.route n).fits) c.loop-i.i (omega (arith, c.loop-i.invariant.inside, c.loop-i-test.true))
    (ground s.floor.now.accepted) s.trip.to c.loop-i.node c.loop-i.invariant.stands (sym c.is_step.ensures ∙ c.if-not-is_step.true)))

pub loop-i-preserved : goal.loop-i-preserved
loop-i-preserved c =
    let s = c.args in
    follows_on (ground s.floor.now.accepted) s.trip _ c.loop-i.invariant _ c.loop-i-test.true
    (found_standing _ (λ n. (c.type_inv.route n).fits) c.loop-i.i (omega (arith, c.loop-i.invariant.inside, c.loop-i-test.true))
    (ground s.floor.now.accepted) s.trip.to c.loop-i.node c.loop-i.invariant.stands (sym c.is_step.ensures ∙ c.if-not-is_step.false))
    (c.enter-node.ensures ∙ ap (enter (vertices_of s.floor.now.vertices.now) c.loop-i.node) c.step-step.ensures)

-- ---- the last record

pub returns : goal.returns
returns c = c.judge_end.ensures ∙ sym (follows_ends (ground c.args.floor.now.accepted) c.args.trip _ c.loop-i.invariant c.loop-i-test.false)
