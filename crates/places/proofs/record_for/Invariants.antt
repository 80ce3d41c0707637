-- `places::record_for` meets its contract: no record that was passed has this root. Assumes nothing.
use Rattle.std.proofs.Common.{◌≡◌, ◌<◌, ℕ, false}
use Rattle.point.specs.Point.{same_of}
use Rattle.places.specs.Layout.{record_root}
use Rattle.places.proofs.record_for.Given as goal

abbrev pub invariant-loop-r : goal.invariant-loop-r
invariant-loop-r l = (k : ℕ) → k < l.r → same_of (record_root l.floats k) l.root ≡ false
