-- `seen::holds` meets its contract: the words passed are those of the key. Assumes nothing.
use Rattle.std.proofs.Common.{◌≡◌, ℕ, ◌<◌, ◌≤◌, true, eqb, get_or}
use Rattle.seen.specs.Table.{words_per_entry, entry_word}
use Rattle.seen.proofs.holds.Given as goal

abbrev pub invariant-loop-k : goal.invariant-loop-k
invariant-loop-k l = record {
  within : l.k ≤ words_per_entry;
  equal : (m : ℕ) → m < l.k → eqb (entry_word l.table l.j m) (get_or l.key m 0) ≡ true;
}
