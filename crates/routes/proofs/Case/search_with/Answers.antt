-- `routes::Case::search_with` lends no more than there is. Assumes nothing.
use Rattle.std.proofs.Common.{sym, arith}
use Rattle.std.proofs.Math.Seq.{length-take-le}
use Rattle.routes.proofs.Case.search_with.Goals as goal

pub slice_bounds-search-end : goal.slice_bounds-search-end
slice_bounds-search-end c = sym (length-take-le _ _ (omega (arith, c.room_of-floats.ensures.len, c.min-n.ensures)))
