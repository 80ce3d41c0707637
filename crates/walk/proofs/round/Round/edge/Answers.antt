-- `walk::round::Round::edge` meets its contract: an edge number is taken as it is up to the last edge, and from the first on behind it. Assumes nothing.
use Rattle.walk.specs.Turns.{edge_number_of}
use Rattle.walk.proofs.Wrap.{up_to_the_last, from_the_first}
use Rattle.walk.proofs.round.Round.edge.Goals as goal

pub returns-then-self-left : goal.returns-then-self-left
unfolding edge_number_of
returns-then-self-left c = up_to_the_last _ _ _ c.if-self-left.true

pub returns : goal.returns
unfolding edge_number_of
returns c = from_the_first _ _ _ c.requires.0 c.if-self-left.false
