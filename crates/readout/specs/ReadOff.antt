-- The points of a route file that the judge has accepted, read off its records: each middle one is a step then, so that of the floor its vertices are enough.
-- proofs/Listing says that they are the route's points. Definitions only. Assumes nothing.
use Rattle.std.specs.Prelude.{ℕ, zero, suc, ◌+◌, ◌-◌, ◌≡◌, Bool, true, ◌&&◌, List, [], ◌∷◌, ltb, length}
use Rattle.point.specs.declared.Point.{Point}
use Rattle.route.specs.Record.{records}
use Rattle.route.specs.Judge.{length_right}
use Rattle.records.specs.Records.{step_in, points_word}
use Rattle.steps.specs.declared.Node.{Node}
use Rattle.steps.specs.declared.Trip.{Trip}
use Rattle.steps.specs.Steps.{seed_node, enter}
use Rattle.readout.specs.Points.{points_along}

module _ (vertices : List Point) (file : List ℕ) where
  -- the nodes that the records from i on lead to out of this one, with this many middle records left before the last one
  unfoldable pub read_from : Node → ℕ → ℕ → List Node
  read_from node i zero = []
  read_from node i (suc left) = enter vertices node (step_in file i) ∷ read_from (enter vertices node (step_in file i)) (i + 1) left

  -- whoever is left for another has both vertices of its entry edge in the list
  unfoldable pub leads : Node → ℕ → ℕ → Bool
  leads node i zero = true
  leads node i (suc left) =
      ltb node.first (length vertices) && (ltb node.second (length vertices) && leads (enter vertices node (step_in file i)) (i + 1) left)

-- where the trip begins
abbrev pub seed_of : Trip → Node
seed_of trip = seed_node trip.start trip.from

unfoldable pub points_read : List Point → Trip → List ℕ → List Point
points_read vertices trip file = points_along trip.goal (seed_of trip) (read_from vertices file (seed_of trip) 1 (records file - 2))

-- a file that can be read off: whole records, each leading on, and as many points as the last of them says
pub record Readable (vertices : List Point) (trip : Trip) (file : List ℕ) : Type 0 where
  pub whole : length_right file ≡ true
  pub leading : leads vertices file (seed_of trip) 1 (records file - 2) ≡ true
  pub counted : points_word file (records file - 1) ≡ length (points_read vertices trip file)
