-- `seen::put_entry` meets its contract: the words passed are stored. Assumes nothing.
use Rattle.std.proofs.Common.{◌≡◌, ◌≤◌}
use Rattle.seen.specs.Table.{words_per_entry, stored_to}
use Rattle.seen.proofs.put_entry.Given as goal

abbrev pub invariant-loop-k : goal.invariant-loop-k
invariant-loop-k l = record {
  within : l.k ≤ words_per_entry;
  stored : l.table ≡ stored_to l.fn.table l.j l.key l.k;
}
