-- `search::search_on` meets its contract. Assumes nothing.
use Rattle.std.proofs.Common.{ℕ, ◌<◌, sym, ap, ◌∙◌, subst, arith, rules}
use Rattle.plan.specs.Plan.{polygon_count_in}
use Rattle.edges.proofs.Held.{ground}
use Rattle.steps.specs.declared.Trip.{Trip}
use Rattle.floor.proofs.Asking.{asked_inside}
use Rattle.search.proofs.Doors.{given_back, start_self, asks_inside, asks_refused}
use Rattle.search.proofs.search_on.Goals as goal

-- ---- refused

pub returns-in-Err : goal.returns-in-Err
returns-in-Err c = asks_refused _ _ _ _ _ c.ask.ensures c.in-Err.is

-- ---- the question is about places on the floor

pub overflow_cast-inside : goal.overflow_cast-inside
overflow_cast-inside c =
    let h = asked_inside (ground c.args.floor.now.accepted) _ (sym c.ask.ensures ∙ c.in-Ok.is) in
    omega (arith, h.from_listed, h.few)

pub overflow_cast-inside-2 : goal.overflow_cast-inside-2
overflow_cast-inside-2 c =
    let h = asked_inside (ground c.args.floor.now.accepted) _ (sym c.ask.ensures ∙ c.in-Ok.is) in
    omega (arith, h.to_listed, h.few)

pub of-trip-requires : goal.of-trip-requires
of-trip-requires c = (asked_inside (ground c.args.floor.now.accepted) _ (sym c.ask.ensures ∙ c.in-Ok.is)).long

-- ---- inside

pub route_between-requires : goal.route_between-requires
route_between-requires c =
    let h = asked_inside (ground c.args.floor.now.accepted) _ (sym c.ask.ensures ∙ c.in-Ok.is) in
    let is = c.of-trip.ensures in (
      subst (λ (n : ℕ). n < polygon_count_in c.args.floor.now.plan.now) (sym (ap (λ (t : Trip). t.from) is)) h.from_listed,
      start_self _ h.right (ap (λ (t : Trip). t.start) is),
    )

pub returns : goal.returns
returns c =
    given_back c.route_between.new.work (search rules) (search rules) (search rules)
    (asks_inside _ _ _ _ _ c.ask.ensures c.in-Ok.is c.of-trip.ensures c.route_between.ensures.searched)
