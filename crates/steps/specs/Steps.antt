-- Document 01, "A permitted step": which steps lead out of a node, in order. Rests on the floor, the walk and the clip. Assumes nothing.
use Rattle.std.specs.Prelude.{ℕ, ◌+◌, Bool, true, false, not, ◌&&◌, cond, List, [], ◌∷◌, Option, Some, None, eqb, Float}
use Rattle.std.specs.Float.{binary32}
use Rattle.std.specs.Float.Ieee.{of_bits, neg, le, add}
use Rattle.counts.specs.Counts.{first, table}
use Rattle.point.specs.declared.Point.{Point}
use Rattle.point.specs.declared.Segment.{Segment}
use Rattle.point.specs.Point.{zero, same_of, distance_of}
use Rattle.cone.specs.Cone.{clip_to_cone_of}
use Rattle.cone.specs.Landing.{lands_on_of}
use Rattle.cut.specs.declared.SuccessorType.{SuccessorType}
use Rattle.cut.specs.declared.SuccessorType.TheVariants.{LeftNonObservable, Observable, RightNonObservable}
use Rattle.walk.specs.declared.Successor.{Successor}
use Rattle.walk.specs.Round.{successors_of}
use Rattle.stored.specs.Stored.{Floor, Polygon, unused, corner, neighbour, corner_count, corner_after, polygon, vertex_in, vertex, edge}
use Rattle.edges.specs.Where.{is_turn}
use Rattle.route.specs.declared.Step.{Step}
use Rattle.steps.specs.declared.Node.{Node}

-- ---- intervals

-- the largest finite f32
abbrev pub largest : Float
largest = of_bits binary32 0x7F7FFFFF

unfoldable pub is_finite : Point → Bool
is_finite p = le (neg largest) p.x && (le p.x largest && (le (neg largest) p.y && le p.y largest))

-- "Equal ends (==) or a non-finite end is no step."
unfoldable pub is_interval : Segment → Bool
is_interval s = cond (same_of s.0 s.1) false (is_finite s.0 && is_finite s.1)

-- ---- which parts of which edges there are to step over

-- "From the seed: each non-wall edge in order, whole, kind 2"
unfoldable pub whole_edge : Floor → Node → ℕ → Successor
whole_edge f node i = record { edge = i; part = record { interval = edge f node.polygon i; kind = Observable } }

unfoldable pub whole_edges : Floor → Node → List Successor
whole_edges f node = table (corner_count (polygon f node.polygon)) (whole_edge f node)

-- the place of the corner v among the first n, and n where it is none of them
unfoldable pub place_of : Polygon → ℕ → ℕ → ℕ
place_of q n v = first n (λ i. eqb (corner q i) v)

-- the entry edge, by its place in the polygon that was entered: it begins at the edge's second vertex
unfoldable pub entry_of : Floor → Node → ℕ
entry_of f node = place_of (polygon f node.polygon) (corner_count (polygon f node.polygon)) node.second

-- the walk round the polygon
unfoldable pub successors_in : Floor → Node → List Successor
successors_in f node =
    let q = polygon f node.polygon in
    successors_of node.root node.interval (table (corner_count q) (λ i. vertex f (corner q i))) (entry_of f node)

-- "Otherwise, from a node, each successor in order"
unfoldable pub candidates : Floor → Node → List Successor
candidates f node = cond node.seed (whole_edges f node) (successors_in f node)

-- ---- the step over one of them, or none

-- "allowed when the node's right (left) interval end lands on its entry edge's first (second) vertex and that is a turn vertex", one of these
unfoldable pub is_allowed : List Point → (ℕ → Bool) → Node → SuccessorType → Bool
is_allowed vertices turns node Observable = true
is_allowed vertices turns node RightNonObservable = lands_on_of node.interval.0 (vertex_in vertices node.first) node.root && turns node.first
is_allowed vertices turns node LeftNonObservable = lands_on_of node.interval.1 (vertex_in vertices node.second) node.root && turns node.second

-- "root kept", or "which becomes the root"
unfoldable pub root_after : List Point → Node → SuccessorType → Point
root_after vertices node Observable = node.root
root_after vertices node RightNonObservable = vertex_in vertices node.first
root_after vertices node LeftNonObservable = vertex_in vertices node.second

-- "If the root is unchanged by ==, and the node is not the seed, the interval is clipped; none is no step."
unfoldable pub clipped : List Point → Node → SuccessorType → Segment → Option Segment
clipped vertices node kind interval =
    cond (not node.seed && same_of (root_after vertices node kind) node.root) (clip_to_cone_of node.root node.interval interval) (Some interval)

abbrev pub if_seen : Option Segment → (Segment → Option Step) → Option Step
if_seen (Some interval) step = step interval
if_seen None step = None

-- ".. whose edge has a neighbour": over a wall there is no step.
unfoldable pub step_of : Floor → Node → Successor → Option Step
step_of f node s =
    let q = polygon f node.polygon in
    let kind = s.part.kind in
    cond (eqb (neighbour q s.edge) unused) None
    (cond (not (is_allowed f.vertices (is_turn f) node kind)) None
    (if_seen (clipped f.vertices node kind s.part.interval)
    (λ interval.
    cond (not (is_interval interval)) None
    (Some (record { kind = kind; polygon = neighbour q s.edge; first = corner q s.edge; second = corner_after q s.edge; interval = interval })))))

-- ---- the steps out of a node

abbrev pub and_then : Option Step → List Step → List Step
and_then (Some step) rest = step ∷ rest
and_then None rest = rest

-- the steps over these, in order
unfoldable pub steps_over : Floor → Node → List Successor → List Step
steps_over f node [] = []
steps_over f node (s ∷ rest) = and_then (step_of f node s) (steps_over f node rest)

-- "Nothing steps out of the goal polygon."
unfoldable pub steps_from : Floor → ℕ → Node → List Step
steps_from f goal node = cond (eqb node.polygon goal) [] (steps_over f node (candidates f node))

-- ---- nodes

-- where every route begins: "root the start"
unfoldable pub seed_node : Point → ℕ → Node
seed_node start p = record {
  seed = true;
  left = p;
  polygon = p;
  first = 0;
  second = 0;
  interval = (start, start);
  root = start;
  length = zero;
  points = 0;
}

-- where a step leads to; "where the root changed by !=" the way has one more point, and one more leg
unfoldable pub enter : List Point → Node → Step → Node
enter vertices node step =
    let root = root_after vertices node step.kind in
    let kept = same_of root node.root in
    record {
      seed = false;
      left = node.polygon;
      polygon = step.polygon;
      first = step.first;
      second = step.second;
      interval = step.interval;
      root = root;
      length = cond kept node.length (add binary32 node.length (distance_of node.root root));
      points = cond kept node.points (node.points + 1);
    }
