-- `readout::read_out` meets its contract: what a look with its plan leaves is what the listing asks. Assumes nothing.
use Rattle.std.proofs.Common.{◌<◌, ℕ, arith, sym, ap, subst}
use Rattle.std.proofs.lemmas.Grind.{merely}
use Rattle.std.proofs.lemmas.Result.{err_from_is_err_and}
use Rattle.plan.specs.Plan.{polygon_count_in}
use Rattle.steps.specs.declared.Trip.{Trip}
use Rattle.judge.proofs.Looking.{looked}
use Rattle.readout.proofs.Answered.{reads_inside, reads_refused}
use Rattle.readout.proofs.read_out.Goals as goal

-- ---- refused

pub returns-in_err-inside-clause-value : goal.returns-in_err-inside-clause-value
returns-in_err-inside-clause-value c =
    let p = err_from_is_err_and c.from_residual.result c.from_residual.ensures.1 in
    rw (p.1, p.2) (reads_refused 8 _ _ _ _ _ c.look_with.ensures.value c.in_err-inside.was).0

pub returns-in_err-inside-clause-points_after : goal.returns-in_err-inside-clause-points_after
returns-in_err-inside-clause-points_after c = (reads_refused 8 _ _ _ _ _ c.look_with.ensures.value c.in_err-inside.was).1

-- ---- inside

pub overflow_cast-inside : goal.overflow_cast-inside
overflow_cast-inside c =
    let h = (looked _ c.look_with.ensures.value c.in_ok-inside.was c.look_with.ensures.plan_after).asking in omega (arith, h.from_listed, h.to_listed, h.few)

pub overflow_cast-inside-2 : goal.overflow_cast-inside-2
overflow_cast-inside-2 c =
    let h = (looked _ c.look_with.ensures.value c.in_ok-inside.was c.look_with.ensures.plan_after).asking in omega (arith, h.to_listed, h.from_listed, h.few)

pub of-trip-requires : goal.of-trip-requires
of-trip-requires c = (looked _ c.look_with.ensures.value c.in_ok-inside.was c.look_with.ensures.plan_after).asking.long

pub invariant_of-floor : goal.invariant_of-floor
invariant_of-floor c =
    record { accepted = merely (looked _ c.look_with.ensures.value c.in_ok-inside.was c.look_with.ensures.plan_after).ground }

pub read_route-requires : goal.read_route-requires
read_route-requires c =
    let listed = (looked _ c.look_with.ensures.value c.in_ok-inside.was c.look_with.ensures.plan_after).asking.from_listed in
    let from_is = sym (ap (λ (t : Trip). t.from) c.of-trip.ensures) in
    subst (λ (n : ℕ). n < polygon_count_in c.look_with.new.plan) from_is listed

pub returns-clause-value : goal.returns-clause-value
returns-clause-value c =
    let h = looked _ c.look_with.ensures.value c.in_ok-inside.was c.look_with.ensures.plan_after in
    (reads_inside 8 _ _ _ _ _ c.look_with.ensures.value c.in_ok-inside.was h c.of-trip.ensures
    (c.read_route.ensures.result_value, c.read_route.ensures.points_after)).0

pub returns-clause-points_after : goal.returns-clause-points_after
returns-clause-points_after c =
    (reads_inside 8 _ _ _ _ _ c.look_with.ensures.value c.in_ok-inside.was
    (looked _ c.look_with.ensures.value c.in_ok-inside.was c.look_with.ensures.plan_after) c.of-trip.ensures
    (c.read_route.ensures.result_value, c.read_route.ensures.points_after)).1
