-- What the output must hold: "On 0 the search fills exactly the route's bytes; those behind stay", and 255 is what they were. Assumes nothing.
use Rattle.std.specs.Prelude.{ℕ, Bool, cond, List, eqb, ltb, length, get_or}
use Rattle.counts.specs.Counts.{every}

-- a byte of the route, or of what stands behind it
unfoldable pub byte_of : List ℕ → ℕ → ℕ
byte_of route i = cond (ltb i (length route)) (get_or route i 0) 255

unfoldable pub holds_of : List ℕ → List ℕ → Bool
holds_of out route = every (length out) (λ i. eqb (get_or out i 0) (byte_of route i))
