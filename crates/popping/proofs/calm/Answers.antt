-- `popping::calm` meets its contract: minus one by nothing is below every number. Assumes nothing.
use Rattle.std.proofs.Common.{refl}
use lib.Ieee.{of_bits, div, neg}
use Rattle.popping.proofs.calm.Goals as goal

pub returns : goal.returns
unfolding of_bits div neg
returns c = refl
