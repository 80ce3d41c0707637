-- `line::put_record` meets its contract: each arm is the definition's case. Assumes nothing.
use Rattle.std.proofs.Common.{arith}
use Rattle.says.specs.Words.{bytes_of}
use Rattle.line.specs.Line.{record_part}
use Rattle.line.proofs.Pieces.{next, put_nothing}
use Rattle.line.proofs.put_record.Goals as goal

pub returns-in-Alone-clause-put : goal.returns-in-Alone-clause-put
unfolding record_part
returns-in-Alone-clause-put c = rw c.in-Alone.is (omega arith, put_nothing _ _)

pub returns-in-AtRecord-clause-put : goal.returns-in-AtRecord-clause-put
unfolding record_part bytes_of
returns-in-AtRecord-clause-put c = rw c.in-AtRecord.is (next c.args.from _ _ _ (omega arith) c.put-n.ensures c.put_decimal.ensures.put)

pub returns-in-WithCount-clause-put : goal.returns-in-WithCount-clause-put
unfolding record_part
returns-in-WithCount-clause-put c = rw c.in-WithCount.is (omega arith, put_nothing _ _)
