-- `line::put_decimal` meets its contract: what `io::decimal` spells is the decimal. Assumes nothing.
use Rattle.std.proofs.Common.{◌∙◌}
use Rattle.line.proofs.Decimals.{spelled}
use Rattle.line.proofs.put_decimal.Goals as goal

pub returns-clause-put : goal.returns-clause-put
returns-clause-put c =
    let same = c.decimal-n.ensures.digits ∙ spelled _ _ c.decimal-n.ensures.len in
    rw same at c.put.ensures
