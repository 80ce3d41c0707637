-- `popping::pop` meets its contract. Assumes nothing.
use Rattle.std.proofs.Common.{ap, ◌∙◌}
use Rattle.edges.specs.AcceptedFloor.{the_floor}
use Rattle.edges.proofs.Held.{ground}
use Rattle.machine.specs.Search.{State, searching, counted, visited}
use Rattle.popping.proofs.Stepping.{popped_in, popped_low, popped_is, popped_sound}
use Rattle.popping.proofs.pop.Goals as goal

pub remove-requires-clause-i_lt_n : goal.remove-requires-clause-i_lt_n
remove-requires-clause-i_lt_n c =
    let h = c.requires in
    rw c.by_f.ensures.places (popped_in h.sound_from h.i_value.0 h.i_value.1 (ground c.args.floor.now.accepted))

pub visit-requires-clause-sound_from : goal.visit-requires-clause-sound_from
unfolding counted
visit-requires-clause-sound_from c =
    let h = c.requires in
    let by = c.by_f.ensures in
    popped_sound h.sound_from h.i_value.0 h.i_value.1 (ground c.args.floor.now.accepted) (rw (by.f_value, by.places) at c.remove.ensures)

pub visit-requires-clause-i_lt_taken : goal.visit-requires-clause-i_lt_taken
visit-requires-clause-i_lt_taken c =
    let h = c.requires in
    (popped_low h.sound_from h.i_value.0 h.i_value.1 (ground c.args.floor.now.accepted), h.records.0)

pub returns-clause-outcome : goal.returns-clause-outcome
unfolding counted
returns-clause-outcome c =
    let h = c.requires in
    let by = c.by_f.ensures in
    let a = c.args in
    let f = the_floor a.floor.now in
    λ stall e. c.visit.ensures.outcome stall e
    ∙ ap (λ (x : State). visited f a.task (searching x stall a.table.now) a.i)
    (popped_is h.sound_from h.i_value.0 h.i_value.1 (ground c.args.floor.now.accepted) (rw (by.f_value, by.places) at c.remove.ensures))
