-- `write_straight` meets its contract: the end and the seed, and what stood behind them stays. Assumes nothing.
use Rattle.writing.proofs.Written.{straight_short, straight_told, seed_few}
use Rattle.writing.proofs.write_straight.Goals as goal

pub returns-then-out-bytes : goal.returns-then-out-bytes
returns-then-out-bytes c =
    let t = straight_short c.args.trip c.args.out.now c.if-out-bytes.true in
    record { value = t.0; out_after = t.1 }

pub end_after-requires : goal.end_after-requires
end_after-requires c = seed_few c.args.trip c.seed-seed.ensures

pub returns : goal.returns
returns c =
    let t =
    straight_told c.args.trip c.args.out.now c.if-out-bytes.false c.seed-seed.ensures c.end_after.ensures c.write.ensures c.seed.ensures
    c.write-2.ensures in
    record { value = t.0; out_after = t.1 }
