-- Document 01, "Numbers that come back": what is told of an answer, taken apart. Assumes nothing.
use Rattle.std.specs.Prelude.{ℕ, List, [], ◌∷◌}
use Rattle.told.specs.declared.Told.{Told}
use Rattle.told.specs.declared.Told.TheVariants.{Alone, AtRecord, WithCount}

-- the number
unfoldable pub number_of : Told → ℕ
number_of (Alone number) = number
number_of (AtRecord number lowest) = number
number_of (WithCount number count) = number

-- "4, 5, 6, 21, 22, 23 also return the lowest record at fault": that record, if there is one
unfoldable pub record_of : Told → List ℕ
record_of (Alone number) = []
record_of (AtRecord number lowest) = lowest ∷ []
record_of (WithCount number count) = []

-- that record, or "on 0 the bytes written; the read-out returns on 0 the number of points": one value at most
unfoldable pub values_of : Told → List ℕ
values_of (Alone number) = []
values_of (AtRecord number lowest) = lowest ∷ []
values_of (WithCount number count) = count ∷ []
