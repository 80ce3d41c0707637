-- `search::search` meets its contract. Assumes nothing.
use Rattle.std.proofs.Common.{sym, ◌∙◌, arith}
use Rattle.std.proofs.lemmas.Grind.{merely}
use Rattle.floor.proofs.Planned.{slots_are}
use Rattle.floor.proofs.Asking.{looked_ground}
use Rattle.search.proofs.Doors.{searches_floor, searches_refused}
use Rattle.search.proofs.search.Goals as goal

-- ---- at fault

pub returns-in-Err : goal.returns-in-Err
returns-in-Err c = searches_refused 8 _ _ c.look_at_floor.ensures.value _ _ _ _ c.in-Err.is

-- ---- accepted

pub invariant_of-floor : goal.invariant_of-floor
invariant_of-floor c =
    let look = c.look_at_floor.ensures in
    record { accepted = merely (looked_ground look.value c.in_default.is _ look.plan_after) }

pub returns : goal.returns
returns c =
    let look = c.look_at_floor.ensures in
    searches_floor 8 _ _ look.value _ _ _ _ c.in_default.is
    (slots_are 8 _ _ (omega arith) (omega arith) (sym look.value ∙ c.in_default.is) _ look.plan_after) c.search_on.ensures
