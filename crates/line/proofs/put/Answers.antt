-- `line::put` meets its contract: the part of the room from the place on is what is copied there. Assumes nothing.
use Rattle.std.proofs.Common.{◌≡◌, ◌+◌, ◌-◌, length, arith}
use Rattle.line.specs.Put.{put_at}
use Rattle.says.specs.Words.{laid}
use Rattle.line.proofs.put.Goals as goal

pub returns : goal.returns
unfolding put_at laid
returns c =
    let n : c.args.from + length c.args.text.now - c.args.from ≡ length c.args.text.now = omega arith in
    (omega arith, rw (n, c.copy_from_slice.ensures.after))
