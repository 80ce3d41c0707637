use Rattle.std.proofs.Common.{◌*◌, ◌<◌, ◌≤◌, length, arith}
use Rattle.seen.specs.Table.{words_per_entry, first_slot}
use Rattle.seen.proofs.Scan.{entries_room, entries_few, found_nowhere, passed_none, passed_below, passed_inside}
use Rattle.seen.proofs.Scan.{passed_free, passed_held, passed_more, passed_all}
use Rattle.seen.proofs.look_up.Goals as goal

pub returns-then-entries-eq0 : goal.returns-then-entries-eq0
returns-then-entries-eq0 c = rw (← c.entries_in-entries.ensures) (found_nowhere _ _ _ c.if-entries-eq0.true)

pub overflow_cast-j : goal.overflow_cast-j
overflow_cast-j c = omega (arith, entries_few c.args.table.now)

pub loop-init : goal.loop-init
unfolding first_slot
loop-init c =
    let n = c.entries_in-entries.result in
    let some : 0 < n = omega arith in
    let room : n * words_per_entry ≤ length c.args.table.now = rw c.entries_in-entries.ensures (entries_room _) in
    rw c.sum_of.ensures (passed_none c.args.table.now c.args.key.now n some room)

pub is_used-requires : goal.is_used-requires
is_used-requires c = passed_inside _ _ _ _ _ c.loop.invariant

pub returns-then-not-is_used : goal.returns-then-not-is_used
returns-then-not-is_used c =
    rw (← c.entries_in-entries.ensures) (passed_free _ _ _ _ _ c.loop.invariant c.loop-test.true (rw (← c.is_used.ensures) c.if-not-is_used.true))

pub holds-requires : goal.holds-requires
holds-requires c = passed_inside _ _ _ _ _ c.loop.invariant

pub returns-then-holds : goal.returns-then-holds
returns-then-holds c =
    rw (← c.entries_in-entries.ensures)
    (passed_held _ _ _ _ _ c.loop.invariant c.loop-test.true
    (rw (← c.is_used.ensures) c.if-not-is_used.false)
    (rw (← c.holds.ensures) c.if-holds.true))

pub next-j-requires : goal.next-j-requires
next-j-requires c = passed_below _ _ _ _ _ c.loop.invariant

pub loop-preserved : goal.loop-preserved
loop-preserved c =
    rw c.next-j.ensures
    (passed_more _ _ _ _ _ c.loop.invariant c.loop-test.true
    (rw (← c.is_used.ensures) c.if-not-is_used.false)
    (rw (← c.holds.ensures) c.if-holds.false))

pub returns : goal.returns
returns c = rw (← c.entries_in-entries.ensures) (passed_all _ _ _ _ _ c.loop.invariant c.loop-test.false)
