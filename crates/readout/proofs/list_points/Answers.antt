-- `readout::list_points` meets its contract: each way is one of proofs/Listing. Assumes nothing.
use Rattle.std.proofs.Common.{arith, refl, ap, ◌∙◌}
use Rattle.stored.proofs.Records.{vertex_count_lem}
use Rattle.steps.specs.Steps.{enter}
use Rattle.readout.proofs.Listing.{places_begin, first_listed, second_listed, places_on, place_for_root, place_for_last, places_end}
use Rattle.readout.proofs.list_points.Goals as goal

pub loop-i-init : goal.loop-i-init
loop-i-init c = places_begin _ c.args.trip _ c.requires.readable _ refl _ c.seed-node.ensures

-- ---- a record

pub enter-next-requires : goal.enter-next-requires
enter-next-requires c =
    let h = c.loop-i.invariant in
    let under = c.loop-i-test.true in
    let count = vertex_count_lem c.args.vertices.now in (
      omega (arith, count, first_listed _ _ _ _ _ _ c.loop-i.node c.loop-i.i h under),
      omega (arith, count, second_listed _ _ _ _ _ _ c.loop-i.node c.loop-i.i h under),
      omega (arith, h.points, h.upto, h.few),
    )

pub put_root-requires : goal.put_root-requires
put_root-requires c =
    place_for_root _ _ _ _ _ _ c.loop-i.node c.loop-i.i c.loop-i.invariant c.loop-i-test.true c.requires.route_in_bounds
    (c.enter-next.ensures ∙ ap (enter _ _) c.step-step.ensures)

pub loop-i-preserved : goal.loop-i-preserved
loop-i-preserved c =
    places_on _ _ _ _ _ _ c.loop-i.node c.loop-i.i c.loop-i.invariant c.loop-i-test.true
    (c.enter-next.ensures ∙ ap (enter _ _) c.step-step.ensures) c.put_root.ensures

-- ---- behind the last step

pub put_last-requires : goal.put_last-requires
put_last-requires c =
    place_for_last _ _ _ _ _ _ c.loop-i.node c.loop-i.i c.loop-i.invariant c.loop-i-test.false c.requires.route_in_bounds

pub returns : goal.returns
returns c = places_end _ _ _ _ _ _ c.loop-i.node c.loop-i.i c.loop-i.invariant c.loop-i-test.false c.put_last.ensures
