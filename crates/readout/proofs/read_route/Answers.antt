-- `readout::read_route` meets its contract: of an accepted route the points are listed. Assumes nothing.
use Rattle.std.proofs.Common.{sym, ap, ◌∙◌}
use Rattle.std.proofs.lemmas.Result.{err_from_is_err_and}
use Rattle.edges.proofs.Held.{ground}
use Rattle.readout.specs.Readout.{listed, listing}
use Rattle.readout.proofs.Listing.{accepted_readable, read_is_route}
use Rattle.readout.proofs.Answered.{read_accepted, read_untrue}
use Rattle.readout.proofs.read_route.Goals as goal

-- ---- not accepted

pub returns-in_err-judge_route-clause-result_value : goal.returns-in_err-judge_route-clause-result_value
returns-in_err-judge_route-clause-result_value c =
    let p = err_from_is_err_and c.from_residual.result c.from_residual.ensures.1 in
    rw (p.1, p.2) (read_untrue _ _ c.args.points.now _ (sym c.judge_route.ensures ∙ c.in_err-judge_route.was)).0

pub returns-in_err-judge_route-clause-points_after : goal.returns-in_err-judge_route-clause-points_after
returns-in_err-judge_route-clause-points_after c =
    (read_untrue _ _ c.args.points.now _ (sym c.judge_route.ensures ∙ c.in_err-judge_route.was)).1

-- ---- accepted

pub list_route-requires : goal.list_route-requires
list_route-requires c =
    accepted_readable (ground c.args.floor.now.accepted) c.args.trip _ (λ n. (c.type_inv.route n).fits) c.requires
    (sym c.judge_route.ensures ∙ c.in_ok-judge_route.was)

pub returns-clause-result_value : goal.returns-clause-result_value
returns-clause-result_value c =
    let accepted = sym c.judge_route.ensures ∙ c.in_ok-judge_route.was in
    let same = read_is_route (ground c.args.floor.now.accepted) c.args.trip _ (λ n. (c.type_inv.route n).fits) c.requires accepted in
    let out = c.args.points.now in
    (read_accepted _ _ out _ _ accepted
    (c.list_route.ensures.result_value ∙ ap (λ points. listed points out) same, c.list_route.ensures.points_after ∙ ap (λ points. listing points out) same)).0

pub returns-clause-points_after : goal.returns-clause-points_after
returns-clause-points_after c =
    let accepted = sym c.judge_route.ensures ∙ c.in_ok-judge_route.was in
    let same = read_is_route (ground c.args.floor.now.accepted) c.args.trip _ (λ n. (c.type_inv.route n).fits) c.requires accepted in
    let out = c.args.points.now in
    (read_accepted _ _ out _ _ accepted
    (c.list_route.ensures.result_value ∙ ap (λ points. listed points out) same, c.list_route.ensures.points_after ∙ ap (λ points. listing points out) same)).1
