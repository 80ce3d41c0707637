-- The walk round a node's polygon, an edge at a time: where it begins, what it yields on an edge, and what is left. proofs/Left says that from the beginning on
-- what the edges yield are the candidates, in order. Assumes nothing.
use Rattle.std.specs.Prelude.{ℕ, ◌+◌, ◌-◌, ◌≤◌, ◌<◌, ◌≡◌, false, cond, List, [], ◌∷◌, ◌++◌, length}
use Rattle.point.specs.declared.Segment.{Segment}
use Rattle.cut.specs.declared.SuccessorType.{SuccessorType}
use Rattle.cut.specs.declared.SuccessorType.TheVariants.{Observable}
use Rattle.walk.specs.declared.Walked.{Walked}
use Rattle.walk.specs.declared.round.Round.{Round}
use Rattle.walk.specs.Walk.{walk_edge_of, walked_of, one_of, parts_of}
use Rattle.walk.specs.declared.Successor.{Successor}
use Rattle.walk.specs.Round.{successors_on, edges_from}
use Rattle.walk.specs.Turns.{begin_of, edge_number_of}
use Rattle.plan.specs.Plan.{vertex_count_in}
use Rattle.stored.specs.Stored.{Floor, Polygon, record_in, floor_in, corner_count, edge}
use Rattle.faults.specs.Accepted.{Listed}
use Rattle.steps.specs.declared.Node.{Node}
use Rattle.steps.specs.Steps.{place_of, entry_of}

-- ---- one edge

unfoldable pub whole_of : Segment → Walked
whole_of edge = one_of (record { interval = edge; kind = Observable }) Observable

unfoldable pub walk_by : Node → Segment → SuccessorType → Walked
walk_by node edge kind = cond node.seed (whole_of edge) (walked_of (walk_edge_of node.root node.interval edge kind))

-- at most three parts, in an array of three
pub record Yielded (walked : Walked) : Type 0 where
  pub few : walked.count ≤ 3
  pub three : length walked.parts ≡ 3

-- ---- round the polygon

-- the seed's walk leaves no edge out: its entry edge is one more than there are
unfoldable pub entry_for : Polygon → Node → ℕ
entry_for q node = cond node.seed (corner_count q) (place_of q (corner_count q) node.second)

unfoldable pub count_for : Polygon → Node → ℕ
count_for q node = cond node.seed (corner_count q + 1) (corner_count q)

unfoldable pub begin_round : Polygon → Node → Round
begin_round q node = begin_of (entry_for q node) (count_for q node)

-- what edge i yields
unfoldable pub walked_at : Floor → Node → ℕ → SuccessorType → Walked
walked_at f node i kind = walk_by node (edge f node.polygon i) kind

-- what the round's edge yields
unfoldable pub walked_on : Floor → Node → Round → Walked
walked_on f node round = walked_at f node (edge_number_of round) round.kind

-- ---- what is left

-- the parts of these edges, each with the kind that the last one left
unfoldable pub parts_over : Floor → Node → SuccessorType → List ℕ → List Successor
parts_over f node kind [] = []
parts_over f node kind (i ∷ is) =
    let walked = walk_by node (edge f node.polygon i) kind in
    successors_on i (parts_of walked) ++ parts_over f node walked.kind is

-- the parts of the edges that were not walked yet
unfoldable pub left_in : Floor → Node → Round → List Successor
left_in f node round = parts_over f node round.kind (edges_from round.count round.entry round.taken (round.count - 1 - round.taken))

-- ---- below the door

-- the node stands on an accepted floor
pub record Stands (plan vertices polygons : List ℕ) (node : Node) : Type 0 where
  pub listed : Listed plan vertices polygons node.polygon
  pub first_listed : node.first < vertex_count_in plan
  pub second_listed : node.second < vertex_count_in plan
  pub entered : node.seed ≡ false → entry_of (floor_in plan vertices polygons) node < corner_count (record_in plan polygons node.polygon)

-- the round stands where it has come to by itself
pub record Goes (q : Polygon) (node : Node) (round : Round) : Type 0 where
  pub entry_is : round.entry ≡ entry_for q node
  pub count_is : round.count ≡ count_for q node
  pub taken_in : round.taken < round.count
