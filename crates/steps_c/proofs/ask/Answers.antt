-- `steps_c::ask` meets its contract: a floor that is accepted is the ground of its plan. Assumes nothing.
use Rattle.std.proofs.Common.{ℕ, ◌≡◌, ◌∙◌, sym, ap, List, arith}
use Rattle.std.proofs.lemmas.Grind.{merely}
use Rattle.stored.specs.Stored.{floor_of}
use Rattle.floor.proofs.Planned.{slots_are}
use Rattle.floor.proofs.Asking.{looked_ground}
use Rattle.steps.specs.declared.Node.{Node}
use Rattle.steps_c.specs.Ask.{Answer, answer_on, answer_of}
use Rattle.steps_c.proofs.ask.Goals as goal

-- a plan's slots are those of the floor
by_slots : (vs ps : List ℕ) (goal : ℕ) (node : Node) (k : ℕ) {s n : ℕ} {r : Answer} → s ≡ n → r ≡ answer_on (floor_of s vs ps) goal node k
    → r ≡ answer_on (floor_of n vs ps) goal node k
by_slots vs ps goal node k e a = a ∙ ap (λ n. answer_on (floor_of n vs ps) goal node k) e

pub invariant_of-floor : goal.invariant_of-floor
invariant_of-floor c =
    let look = c.look_at_floor.ensures in
    record { accepted = merely (looked_ground look.value c.in_ok-look_at_floor.was _ look.plan_after) }

pub returns : goal.returns
unfolding answer_of
returns c =
    let right = sym c.look_at_floor.ensures.value ∙ c.in_ok-look_at_floor.was in
    let slots = slots_are 8 _ _ (omega arith) (omega arith) right _ c.look_at_floor.ensures.plan_after in
    rw right (by_slots _ _ _ _ _ slots c.answer_on.ensures)
