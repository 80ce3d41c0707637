-- `popping::visit` meets its contract. Assumes nothing.
use Rattle.std.proofs.Common.{ℕ, List, ap, subst, sym, ◌<◌, ◌∙◌}
use Rattle.edges.specs.AcceptedFloor.{the_floor}
use Rattle.machine.specs.declared.buffers.Buffers.{Buffers}
use Rattle.machine.specs.declared.Counts.{Counts}
use Rattle.machine.specs.declared.Stall.{Stall}
use Rattle.machine.specs.Buffers.{state_in}
use Rattle.machine.specs.Search.{Searching, searching, calm, pursued}
use Rattle.popping.proofs.Stepping.{record_row, own_number, own_place, own_still, popped_from}
use Rattle.popping.proofs.Stepping.{visits_beaten, popped_key, visits_seen, visits_no_room, visits_new}
use Rattle.popping.proofs.visit.Goals as goal

-- the search that it is a part of, whatever its stall
abbrev at : Buffers → Counts → List ℕ → Stall → Searching
at work counts table stall = searching (state_in work counts) stall table

pub distance_of-requires : goal.distance_of-requires
distance_of-requires c =
    let h = c.requires in
    let a = c.args in
    record_row h.sound_from a.i h.i_lt_taken.0 (own_number (state_in a.work.now a.counts) a.i c.origin_of-from.ensures)

pub returns-then-distance_of-from-clause-outcome : goal.returns-then-distance_of-from-clause-outcome
returns-then-distance_of-from-clause-outcome c =
    let h = c.requires in
    let told_beaten = c.distance_of.ensures in
    let a = c.args in
    let p = popped_from (state_in a.work.now a.counts) _ c.origin_of-from.ensures h.i_lt_taken.0 told_beaten in
    λ stall e. visits_beaten (at a.work.now a.counts a.table.now stall) h.sound_from p c.if-distance_of-from.true

pub remember-requires-clause-key : goal.remember-requires-clause-key
remember-requires-clause-key c =
    let h = c.requires in
    let told_key = c.distance_of.ensures in
    let a = c.args in
    let p = popped_from (state_in a.work.now a.counts) _ c.origin_of-from.ensures h.i_lt_taken.0 told_key in
    popped_key (at a.work.now a.counts a.table.now calm) h.sound_from p

pub pursue-requires-clause-place_lt_taken : goal.pursue-requires-clause-place_lt_taken
pursue-requires-clause-place_lt_taken c =
    let a = c.args in
    let own = c.origin_of-from.ensures in (
      subst (λ (k : ℕ). k < a.counts.taken) (sym (own_place (state_in a.work.now a.counts) a.i own)) c.requires.i_lt_taken.0,
      own_still (state_in a.work.now a.counts) a.i own,
    )

pub returns-in-Seen-clause-outcome : goal.returns-in-Seen-clause-outcome
returns-in-Seen-clause-outcome c =
    let h = c.requires in
    let told_seen = c.distance_of.ensures in
    let a = c.args in
    let p = popped_from (state_in a.work.now a.counts) _ c.origin_of-from.ensures h.i_lt_taken.0 told_seen in
    λ stall e. visits_seen (at a.work.now a.counts a.table.now stall) h.sound_from p c.if-distance_of-from.false c.remember.ensures e c.in-Seen.is

pub returns-in-NoRoom-clause-outcome : goal.returns-in-NoRoom-clause-outcome
returns-in-NoRoom-clause-outcome c =
    let h = c.requires in
    let told_no_room = c.distance_of.ensures in
    let a = c.args in
    let p = popped_from (state_in a.work.now a.counts) _ c.origin_of-from.ensures h.i_lt_taken.0 told_no_room in
    λ stall e. visits_no_room (at a.work.now a.counts a.table.now stall) h.sound_from p c.if-distance_of-from.false c.remember.ensures e c.in-NoRoom.is

pub returns-in-New-clause-outcome : goal.returns-in-New-clause-outcome
returns-in-New-clause-outcome c =
    let h = c.requires in
    let told_new = c.distance_of.ensures in
    let a = c.args in
    let own = c.origin_of-from.ensures in
    let p = popped_from (state_in a.work.now a.counts) _ own h.i_lt_taken.0 told_new in
    λ stall e. visits_new (at a.work.now a.counts a.table.now stall) h.sound_from p c.if-distance_of-from.false c.remember.ensures e c.in-New.is
    (c.pursue.ensures.outcome
    ∙ ap (pursued (the_floor a.floor.now) a.task (state_in a.work.now a.counts)) (own_place (state_in a.work.now a.counts) a.i own))
