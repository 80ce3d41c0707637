-- 01's sentence on points and length, and the end record: it carries the number of the points, and their f32 sum in order from 0.0. Rests on the
-- count (proofs/Ended), on legs from equal roots (proofs/Legs) and on the exact cases (judge, proofs/Exact). Assumes nothing.
use Prim.Native.Nat.{ℕ, zero, suc, ◌+◌, ◌-◌}
use mathlib.Core.Path.{◌≡◌, refl, sym, ap, ap₂, ◌∙◌}
use mathlib.Core.Bool.{Bool, true, false, cond}
use mathlib.Core.List.{List, [], ◌∷◌}
use lib.Ieee.{Float, binary32, add}
use lib.Ieee.Bits.{of_bits-fits}
use lib.Ieee.Fits.{add-fits}
use Rattle.word.specs.Word.{Bytes}
use Rattle.point.specs.declared.Point.{Point}
use Rattle.std.specs.Prelude.{Option, Some, None, Ok}
use Rattle.point.specs.Point.{point_of, from_bits_of, same_of, plus_of, distance_of}
use Rattle.helpers.specs.Helpers.{turning_point_of}
use Rattle.cut.specs.declared.SuccessorType.{SuccessorType}
use Rattle.cut.specs.declared.SuccessorType.TheVariants.{LeftNonObservable, Observable, RightNonObservable}
use Rattle.stored.specs.Stored.{Floor, floor_of, question_of, vertex_in}
use Rattle.edges.specs.Where.{polygon_of}
use Rattle.route.specs.declared.Step.{Step}
use Rattle.route.specs.Step.{HeldPoint}
use Rattle.route.specs.Record.{record_at, records, end_bytes}
use Rattle.route.specs.World.{World, TrueRoute}
use Rattle.route.specs.Judge.{find_step, judge_of}
use Rattle.route.proofs.Verdicts.{accepted_exactly}
use Rattle.steps.specs.declared.Node.{Node}
use Rattle.steps.specs.declared.Trip.{Trip}
use Rattle.steps.specs.Steps.{root_after, steps_from, seed_node, enter}
use Rattle.steps.specs.World.{last_leg, ending_of, trip_of, world_in, world_of}
use Rattle.readout.specs.Points.{onto, chain_from, chain_of, going_round, last_points, points_along, points_of, length_from, length_of, EndCarries}
use Rattle.readout.proofs.Chained.{along_end, along_kept, along_more}
use Rattle.readout.proofs.Ended.{last_of, end_bytes_of, route_count}
use Rattle.readout.proofs.Legs.{same_sum}
use Rattle.judge.proofs.Exact.{world_is_lawful}

-- ---- roots are f32

vertex_held : (vertices : List Point) (v : ℕ) → HeldPoint (vertex_in vertices v)
unfolding vertex_in plus_of
vertex_held vertices v = record { x_held = add-fits binary32 _ _; y_held = add-fits binary32 _ _ }

root_held : (vertices : List Point) (node : Node) (t : Step) → HeldPoint node.root → HeldPoint (enter vertices node t).root
unfolding enter root_after
root_held vertices node t h = go t.kind
  where
    go : (k : SuccessorType) → HeldPoint (root_after vertices node k)
    go Observable = h
    go RightNonObservable = vertex_held vertices node.first
    go LeftNonObservable = vertex_held vertices node.second

-- ---- the sum of the points from a node on, after the way to it

module _ (goal : Point) (node : Node) where
  last_sum : (ending_of goal node).length ≡ length_from node.length node.root (last_points goal node)
  unfolding ending_of last_points length_from
  last_sum = go node.seed (turning_point_of node.root goal node.interval)
    where
      round : (t : Option Point) → (last_leg goal node t).length ≡ length_from node.length node.root (going_round t goal)
      round (Some p) = refl
      round None = refl

      go : (b : Bool) (t : Option Point)
          → (cond b (last_leg goal node None) (last_leg goal node t)).length
          ≡ length_from node.length node.root (cond b (goal ∷ []) (going_round t goal))
      go true t = refl
      go false t = round t

module _ (vertices : List Point) (goal : Point) (node : Node) (t : Step) (rest : List Node) where
  abbrev next : Node
  next = enter vertices node t

  length_kept : same_of next.root node.root ≡ true → next.length ≡ node.length
  unfolding enter
  length_kept e = rw e

  length_more : same_of next.root node.root ≡ false → next.length ≡ add binary32 node.length (distance_of node.root next.root)
  unfolding enter
  length_more e = rw e

  first_leg : (p : Point) (points : List Point)
      → length_from (add binary32 node.length (distance_of node.root p)) p points ≡ length_from node.length node.root (p ∷ points)
  unfolding length_from
  first_leg p points = refl

  -- the sum is the same, counted from the node or from the next
  abbrev SameSum : Type 0
  SameSum =
      length_from next.length next.root (points_along goal next rest)
      ≡ length_from node.length node.root (points_along goal node (next ∷ rest))

  step_sums : HeldPoint node.root → SameSum
  step_sums h = go (same_of next.root node.root) refl
    where
      go : (b : Bool) → same_of next.root node.root ≡ b → SameSum
      go true e =
          same_sum next.length next.root node.root (points_along goal next rest) (root_held vertices node t h) h e
          ∙ ap₂ (λ (d : Float) (l : List Point). length_from d node.root l) (length_kept e) (sym (along_kept vertices goal node t rest e))
      go false e =
          ap (λ (d : Float). length_from d next.root (points_along goal next rest)) (length_more e)
          ∙ first_leg next.root (points_along goal next rest)
          ∙ ap (length_from node.length node.root) (sym (along_more vertices goal node t rest e))

module _ (f : Floor) (trip : Trip) (file : List ℕ) where
  abbrev w : World Node
  w = world_in f trip

  abbrev goal : Point
  goal = trip.goal

  abbrev seed : Node
  seed = seed_node trip.start trip.from

  abbrev into : Node → Step → Node
  into = enter f.vertices

  chain_sum : (left : ℕ) (node : Node) (i : ℕ) → HeldPoint node.root
      → let rest = chain_from w file node i left in
      (ending_of goal (last_of node rest)).length ≡ length_from node.length node.root (points_along goal node rest)
  unfolding chain_from last_of world_in
  chain_sum zero node i h = last_sum goal node ∙ ap (length_from node.length node.root) (sym (along_end goal node))
  chain_sum (suc left) node i h =
      go (find_step (steps_from f trip.to node) (record_at file i)) (λ t. chain_sum left (into node t) (i + 1) (root_held f.vertices node t h))
    where
      go : (x : Option Step)
          → ((t : Step) → let next = into node t in let rest = chain_from w file next (i + 1) left in
          (ending_of goal (last_of next rest)).length ≡ length_from next.length next.root (points_along goal next rest))
          → (ending_of goal (last_of node (onto x (λ t. into node t ∷ chain_from w file (into node t) (i + 1) left)))).length
          ≡ length_from node.length node.root (points_along goal node (onto x (λ t. into node t ∷ chain_from w file (into node t) (i + 1) left)))
      go (Some t) below = below t ∙ step_sums f.vertices goal node t (chain_from w file (into node t) (i + 1) left) h
      go None below = last_sum goal node ∙ ap (length_from node.length node.root) (sym (along_end goal node))

  seed_held : HeldPoint trip.start → HeldPoint seed.root
  unfolding seed_node
  seed_held h = h

  seed_sum : (points : List Point) → length_from seed.length seed.root points ≡ length_of trip.start points
  unfolding seed_node length_of
  seed_sum points = refl

  pub route_sum : HeldPoint trip.start → (ending_of goal (last_of w.seed (chain_of w file))).length ≡ length_of trip.start (points_of w goal file)
  unfolding chain_of points_of world_in
  route_sum h = chain_sum (records file - 2) seed 1 (seed_held h) ∙ seed_sum _

-- ---- the end record

point_held : (x y : ℕ) → HeldPoint (from_bits_of x y)
unfolding from_bits_of point_of
point_held x y = record { x_held = of_bits-fits binary32 x; y_held = of_bits-fits binary32 y }

start_held : (question : List ℕ) → HeldPoint (question_of question).start
unfolding question_of
start_held question = point_held _ _

-- Of an accepted file the last record carries the number of the route's points and their length.
pub end_carries : (s : ℕ) (vs ps question file : List ℕ) → judge_of (world_of (floor_of s vs ps) (question_of question)) file ≡ Ok tt
    → EndCarries (question_of question) (points_of (world_of (floor_of s vs ps) (question_of question)) (question_of question).goal file) file
unfolding world_of
end_carries s vs ps question file e =
    let f = floor_of s vs ps in
    let q = question_of question in
    let trip = trip_of q (polygon_of f q.start) (polygon_of f q.goal) in
    end_bytes_of f trip file e
    ∙ ap₂ (λ (n : ℕ) (l : Float). end_bytes n q.goal l) (route_count f trip file) (route_sum f trip file (start_held question))

-- the same of a true route
pub route_carries : (s : ℕ) (vs ps question file : List ℕ) → Bytes ps → TrueRoute (world_of (floor_of s vs ps) (question_of question)) file
    → EndCarries (question_of question) (points_of (world_of (floor_of s vs ps) (question_of question)) (question_of question).goal file) file
route_carries s vs ps question file bytes r = end_carries s vs ps question file ((accepted_exactly (world_is_lawful s vs ps question bytes) file).1 r)
