-- `popping::run` meets its contract. Assumes nothing.
use Rattle.std.proofs.Common.{◌+◌, ◌-◌, ◌≡◌, suc, refl, arith, ap, ◌∙◌}
use mathlib.Core.Bool.{not}
use Rattle.edges.proofs.Held.{ground}
use Rattle.popping.proofs.Stepping.{popped_in}
use Rattle.popping.proofs.Running.{runs_begin, runs_place, runs_empty, runs_none, runs_out, runs_records, runs_ends, runs_next}
use Rattle.popping.proofs.run.Goals as goal

pub loop-init : goal.loop-init
loop-init c = (
  (refl, refl, refl),
  runs_begin (ground c.args.floor.now.accepted) c.requires.sound_from c.requires.budget_bound c.calm-stall.ensures (omega arith),
)

-- ---- a turn

pub returns-in_default-clause-rest : goal.returns-in_default-clause-rest
returns-in_default-clause-rest c = runs_empty c.loop.invariant.1 c.least.ensures c.in_default.is

pub watch-stall-requires : goal.watch-stall-requires
watch-stall-requires c =
    let r = c.loop.invariant.1 in
    let place = runs_place r c.least.ensures c.in-Some.is in
    let inside = popped_in r.sound.from place.0 place.1 r.ground in
    (r.sound.watches.patient, omega (arith, inside, r.sound.from.sound.fit.room.floats_room))

pub pop-stepped-requires-clause-i_value : goal.pop-stepped-requires-clause-i_value
pop-stepped-requires-clause-i_value c = runs_place c.loop.invariant.1 c.least.ensures c.in-Some.is

pub pop-stepped-requires-clause-records : goal.pop-stepped-requires-clause-records
pop-stepped-requires-clause-records c =
    let r = c.loop.invariant.1 in
    let w = c.watch-stall.ensures in
    let left : c.args.budget - c.loop.counter ≡ suc (c.args.budget - (c.loop.counter + 1)) = omega arith in
    let records = runs_records r c.least.ensures left c.in-Some.is w.value w.table_after in
    (records, omega (arith, r.count, left))

pub returns-in-Some-outcome-clause-rest : goal.returns-in-Some-outcome-clause-rest
returns-in-Some-outcome-clause-rest c =
    let w = c.watch-stall.ensures in
    let left : c.args.budget - c.loop.counter ≡ suc (c.args.budget - (c.loop.counter + 1)) = omega arith in
    runs_ends c.loop.invariant.1 c.least.ensures left c.in-Some.is w.value w.table_after c.pop-stepped.ensures.outcome c.in-Some-outcome.is

pub loop-preserved : goal.loop-preserved
loop-preserved c =
    let was = c.loop.invariant.0 in
    let kept = c.pop-stepped.ensures.buffers in
    let w = c.watch-stall.ensures in
    let left : c.args.budget - c.loop.counter ≡ suc (c.args.budget - (c.loop.counter + 1)) = omega arith in (
      (kept.0 ∙ was.0, kept.1 ∙ was.1, kept.2 ∙ was.2),
      runs_next c.loop.invariant.1 c.least.ensures left c.in-Some.is w.value w.table_after c.pop-stepped.ensures.outcome c.in_default-outcome.is
          (c.pop-stepped.auto.table ∙ c.watch-stall.auto.table),
    )

-- ---- the budget is spent

pub returns-then-is_none-clause-rest : goal.returns-then-is_none-clause-rest
returns-then-is_none-clause-rest c = runs_none c.loop.invariant.1 c.least-2.ensures (c.is_none.ensures ∙ ap not c.if-is_none.true)

pub returns-clause-rest : goal.returns-clause-rest
returns-clause-rest c = runs_out c.loop.invariant.1 c.least-2.ensures (omega arith) (c.is_none.ensures ∙ ap not c.if-is_none.false)
