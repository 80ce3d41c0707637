-- Document 01, "Fixed examples": its whole example as a floor, a seed and a step. proofs/Examples has what the definitions make of them. Definitions only.
-- Assumes nothing.
use Rattle.std.specs.Prelude.{ℕ, [], ◌∷◌}
use Rattle.point.specs.Numbers.{0', 1', 2', 4'}
use Rattle.point.specs.Point.{from_bits_of}
use Rattle.cut.specs.declared.SuccessorType.TheVariants.{Observable}
use Rattle.stored.specs.Stored.{Floor, unused}
use Rattle.route.specs.declared.Step.{Step}
use Rattle.steps.specs.declared.Node.{Node}
use Rattle.steps.specs.Steps.{seed_node}

abbrev U : ℕ
U = unused

-- "vertices (0,0) (2,0) (4,0) (4,2) (2,2) (0,2); polygons 0,1,4,5 with 1 across its second edge, and 1,2,3,4 with 0 across its fourth"
unfoldable pub whole_floor : Floor
whole_floor = record {
  vertices = from_bits_of 0' 0' ∷ from_bits_of 2' 0' ∷ from_bits_of 4' 0' ∷ from_bits_of 4' 2' ∷ from_bits_of 2' 2' ∷ from_bits_of 0' 2' ∷ [];
  polygons = record { corners = 0 ∷ 1 ∷ 4 ∷ 5 ∷ U ∷ U ∷ U ∷ U ∷ []; neighbours = U ∷ 1 ∷ U ∷ U ∷ U ∷ U ∷ U ∷ U ∷ [] }
      ∷ record { corners = 1 ∷ 2 ∷ 3 ∷ 4 ∷ U ∷ U ∷ U ∷ U ∷ []; neighbours = U ∷ U ∷ U ∷ 0 ∷ U ∷ U ∷ U ∷ U ∷ [] }
      ∷ [];
}

-- "02000000 01000000 01000000 04000000 00000040 00000000 00000040 00000040"
unfoldable pub only_step : Step
only_step = record { kind = Observable; polygon = 1; first = 1; second = 4; interval = (from_bits_of 2' 0', from_bits_of 2' 2') }

-- "the question, here (1,1)-(3,1)": the start is in polygon 0
unfoldable pub whole_seed : Node
whole_seed = seed_node (from_bits_of 1' 1') 0
