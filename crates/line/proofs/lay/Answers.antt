-- `line::lay` meets its contract: piece after piece, each behind the last. Assumes nothing.
use Rattle.std.proofs.Common.{arith}
use Rattle.says.specs.Words.{bytes_of}
use Rattle.line.specs.Line.{line_of}
use Rattle.line.proofs.Pieces.{next, fitting}
use Rattle.line.proofs.lay.Goals as goal

pub returns : goal.returns
unfolding line_of bytes_of
returns c =
    let two = next 0 _ _ _ (omega arith) c.put_decimal-n.ensures.put c.put_record-n.ensures.put in
    let three = next 0 _ _ _ (omega arith) two c.put_gap-n.ensures.put in
    let four = next 0 _ _ _ (omega arith) three c.put_words-n.ensures.put in
    let whole = fitting _ _ (next 0 _ _ _ (omega arith) four c.put.ensures) in
    rw (← c.number-number.ensures) (record { value = whole.0; room_after = whole.1.0; prefix_len = whole.1.1 })
