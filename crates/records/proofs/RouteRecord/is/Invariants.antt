-- `records::RouteRecord::is` meets its contract. The loop's invariant: the words that were passed stand at their places. Assumes nothing.
use Rattle.std.proofs.Common.{◌*◌, ◌≡◌, true}
use Rattle.counts.specs.Counts.{every}
use Rattle.records.proofs.Stored.{stands}
use Rattle.records.proofs.RouteRecord.is.Given as goal

abbrev pub invariant-loop-j : goal.invariant-loop-j
invariant-loop-j l = every l.j (stands l.self.route.now (l.self.number * 32) l.sought.words) ≡ true
