-- `line::put_words` meets its contract: what `says::words` lays is put. Assumes nothing.
use Rattle.line.proofs.Pieces.{front_is}
use Rattle.line.proofs.put_words.Goals as goal

pub returns-clause-put : goal.returns-clause-put
returns-clause-put c =
    let same = front_is _ _ c.words-n.ensures.value c.words-n.ensures.room_after in
    rw same at c.put.ensures
