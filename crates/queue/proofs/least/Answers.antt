-- `queue::least` meets its contract: word 1 is the least of the queued places. Assumes nothing.
use Rattle.std.proofs.Common.{ap, ◌∙◌}
use Rattle.queue.specs.Queue.{place_named}
use Rattle.queue.proofs.Winner.{root_is_least}
use Rattle.queue.proofs.least.Goals as goal

pub returns-clause-queue : goal.returns-clause-queue
returns-clause-queue c = λ f n q z few o e. c.named.ensures ∙ ap place_named (root_is_least f n q c.args.tree.now e few o z)
