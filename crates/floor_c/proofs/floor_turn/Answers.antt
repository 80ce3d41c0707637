-- `floor_c::floor_turn` meets its contract: the plan of an accepted floor has its turn vertices. Assumes nothing.
use Rattle.std.proofs.Common.{◌∙◌, sym, arith}
use Rattle.floor.proofs.Planned.{its_plan}
use Rattle.floor_c.specs.Numbers.{turn_number}
use Rattle.floor_c.proofs.Marks.{marks_told}
use Rattle.floor_c.proofs.floor_turn.Goals as goal

pub returns-in-Ok : goal.returns-in-Ok
unfolding turn_number
returns-in-Ok c =
    let right = sym c.in-Ok.ensures.value in
    let plan = its_plan 8 _ _ (omega arith) (omega arith) right _ c.in-Ok.ensures.plan_after in
    rw right (c.mark.ensures ∙ marks_told 8 _ _ plan _)
