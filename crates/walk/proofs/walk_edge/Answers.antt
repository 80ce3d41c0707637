-- `walk::walk_edge` meets its contract: each return is its definition's case, by its arm and by what its callees ensure. Assumes nothing.
use Rattle.walk.proofs.Cuts.{first_at, first_none}
use Rattle.walk.proofs.walk_edge.Goals as goal

pub returns-in-Some : goal.returns-in-Some
returns-in-Some c =
    first_at _ _ _ _ c.first_cut-first.ensures c.left_of-rest.ensures c.second_cut-second.ensures _ c.in-Some.is
    (rw (← c.new-before.ensures) c.cut_before.ensures)

pub returns-in-None : goal.returns-in-None
returns-in-None c =
    first_none _ _ _ _ c.first_cut-first.ensures c.left_of-rest.ensures c.second_cut-second.ensures c.in-None.is c.uncut.ensures
