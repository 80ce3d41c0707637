-- The step with a number among those of a node, counted from 0. Assumes nothing.
use Rattle.std.specs.Prelude.{ℕ, zero, suc, ◌-◌, cond, List, [], ◌∷◌, Option, Some, None, Result, Ok, Err, eqb}
use Rattle.walk.specs.declared.Part.{Part}
use Rattle.stored.specs.Stored.{Polygon}
use Rattle.route.specs.declared.Step.{Step}
use Rattle.view.specs.declared.View.{View}
use Rattle.view.specs.View.{step_by}

unfoldable pub kth : List Step → ℕ → Option Step
kth [] k = None
kth (s ∷ rest) zero = Some s
kth (s ∷ rest) (suc k) = kth rest k

-- one part of an edge may have the step that is sought, or one before it, or none: the step itself, or else which of those behind it is sought
unfoldable pub counted_of : Option Step → ℕ → Result Step ℕ
counted_of (Some s) k = cond (eqb k 0) (Ok s) (Err (k - 1))
counted_of None k = Err k

-- goes on with the number that is left
abbrev pub further : Result Step ℕ → (ℕ → Result Step ℕ) → Result Step ℕ
further (Ok s) next = Ok s
further (Err k) next = next k

-- the same of parts of edge i, one after the other
unfoldable pub counted_on : Polygon → View → ℕ → List Part → ℕ → Result Step ℕ
counted_on q view i [] k = Err k
counted_on q view i (part ∷ parts) k = further (counted_of (step_by q view (record { edge = i; part = part })) k) (counted_on q view i parts)
