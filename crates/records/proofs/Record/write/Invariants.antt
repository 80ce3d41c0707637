-- `records::Record::write` meets its contract. The loop's invariant: the bytes of the words that were passed are stored. Assumes nothing.
use Rattle.std.proofs.Common.{◌*◌, ◌≡◌, take}
use Rattle.std.proofs.Math.Seq.{sets}
use Rattle.route.specs.Record.{words_bytes}
use Rattle.records.proofs.Record.write.Given as goal

abbrev pub invariant-loop-k : goal.invariant-loop-k
invariant-loop-k l = l.out ≡ sets l.initial.out (l.i * 32) (words_bytes (take l.k l.self.words))
