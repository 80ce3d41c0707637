-- What is written where a number comes with a record, or on 0 with the number of points or of bytes. Assumes nothing.
use Rattle.std.specs.Prelude.{ℕ, List, [], ◌∷◌}
use Rattle.std.proofs.Math.Option.{Option, some, none}

-- the record, if there is one
unfoldable pub at_of : List ℕ → Option ℕ
at_of [] = none
at_of (lowest ∷ more) = some lowest

-- the record, or what stood there
unfoldable pub record_written : Option ℕ → ℕ → ℕ
record_written (some lowest) before = lowest
record_written none before = before

-- the one value that comes with a number, or what stood there
unfoldable pub value_written : List ℕ → ℕ → ℕ
value_written values before = record_written (at_of values) before
