-- From the beginning on, what the edges yield are the candidates, in order: each edge's once, and when the walk is over none is left. Rests on specs/Going.
-- Assumes nothing.
use Prim.Native.Nat.{ℕ, zero, suc, ◌+◌, ◌-◌, ◌≤◌, ◌<◌}
use native.Mathlib.Numerals.{add-one}
use native.Mathlib.Omega.{arith}
use mathlib.Core.Path.{◌≡◌, refl, sym, ap, ◌∙◌}
use mathlib.Core.Bool.{true, false}
use mathlib.Core.List.{List, [], ◌∷◌, ◌++◌}
use borrow.Author.Tests.{leb-true}
use lib.ListN.{length, drop, drop_of_length-le}
use lib.Seq.{drop-cons, get_or-take, length-take-le}
use Rattle.std.specs.Prelude.{Option, Some, None}
use Rattle.counts.specs.Counts.{table}
use Rattle.point.specs.declared.Point.{Point}
use Rattle.cut.specs.declared.SuccessorType.{SuccessorType}
use Rattle.cut.specs.declared.SuccessorType.TheVariants.{Observable, RightNonObservable}
use Rattle.walk.specs.declared.Part.{Part}
use Rattle.walk.specs.declared.Walked.{Walked}
use Rattle.walk.specs.declared.round.Round.{Round}
use Rattle.walk.specs.Walk.{walk_edge_of, one_of, parts_of, no_part, part_at}
use Rattle.walk.specs.declared.Successor.{Successor}
use Rattle.walk.specs.Round.{edge_of, after_entry, successors_on, edges_from, others, walk_of, successors_of}
use Rattle.walk.specs.Turns.{begin_of, is_over_of, edge_number_of, next_of}
use Rattle.walk.proofs.Wrap.{wrapped_past}
use Rattle.walk.proofs.Laws.{array_holds_the_parts, kind_is_the_walk's, another}
use Rattle.stored.specs.Stored.{Floor, Polygon, floor_in, record_in, corner, corner_count, polygon, vertex, edge}
use Rattle.steps.specs.declared.Node.{Node}
use Rattle.route.specs.declared.Step.{Step}
use Rattle.steps.specs.Steps.{whole_edge, whole_edges, entry_of, successors_in, candidates, step_of, and_then, steps_over}
use Rattle.going.specs.Going.{whole_of, entry_for, count_for, begin_round, walked_at, walked_on, parts_over, left_in, Yielded, Stands, Goes}
use Rattle.going.proofs.Corners.{edge_in_list, as_many_corners, from, table_is_from}
use Rattle.going.proofs.Rounds.{by_seed, walk_of_seed, walk_of_node, its_polygon, entry_of_seed, entry_of_node, count_of_seed, count_of_node}
use Rattle.going.proofs.Rounds.{more_than_taken}

-- ---- the parts of one edge, one after the other

module _ (w : Walked) (yielded : Yielded w) where
  as_many_parts : length (parts_of w) ≡ w.count
  as_many_parts = length-take-le w.count w.parts (omega (arith, yielded.few, yielded.three))

  pub next_part : (k : ℕ) → k < w.count → drop k (parts_of w) ≡ part_at w.parts k ∷ drop (suc k) (parts_of w)
  next_part k l =
      drop-cons (parts_of w) k no_part (omega (arith, as_many_parts))
      ∙ ap (λ (p : Part). p ∷ drop (suc k) (parts_of w)) (get_or-take w.count w.parts k no_part l)

  pub no_part_lem : (k : ℕ) → w.count ≤ k → drop k (parts_of w) ≡ []
  no_part_lem k l =
      let past : length (parts_of w) ≤ k = omega (arith, as_many_parts) in
      drop_of_length-le (parts_of w) past

-- ---- the steps over the parts of several edges

pub steps_over_both : (f : Floor) (node : Node) (xs ys : List Successor) → steps_over f node (xs ++ ys) ≡ steps_over f node xs ++ steps_over f node ys
unfolding steps_over
steps_over_both f node [] ys = refl
steps_over_both f node (x ∷ xs) ys = go (step_of f node x) (steps_over f node xs) (steps_over f node ys) (steps_over_both f node xs ys)
  where
    go : (p : Option Step) (some rest : List Step) {all : List Step} → all ≡ some ++ rest → and_then p all ≡ and_then p some ++ rest
    go (Some step) some rest e = ap (λ (l : List Step). step ∷ l) e
    go None some rest e = e

-- ---- the walk

module _ (plan vs ps : List ℕ) (node : Node) (h : Stands plan vs ps node) where
  abbrev f : Floor
  f = floor_in plan vs ps

  abbrev its : Polygon
  its = record_in plan ps node.polygon

  -- what the round's edge yields comes first in what is left
  pub left_next : (round : Round) → Goes its node round → is_over_of round ≡ false
      → left_in f node round ≡ successors_on (edge_number_of round) (parts_of (walked_on f node round))
      ++ left_in f node (next_of round (walked_on f node round).kind)
  unfolding left_in walked_on walked_at edge_number_of next_of edges_from parts_over
  left_next round goes on =
      let e : round.count - 1 - round.taken ≡ suc (round.count - 1 - (round.taken + 1)) =
      omega (arith, more_than_taken plan vs ps node h round goes on) in
      rw (e, add-one round.taken)

  pub steps_left_next : (round : Round) → Goes its node round → is_over_of round ≡ false
      → steps_over f node (left_in f node round) ≡ steps_over f node (successors_on (edge_number_of round) (parts_of (walked_on f node round)))
      ++ steps_over f node (left_in f node (next_of round (walked_on f node round).kind))
  steps_left_next round goes on =
      ap (steps_over f node) (left_next round goes on)
      ∙ steps_over_both f node (successors_on (edge_number_of round) (parts_of (walked_on f node round)))
      (left_in f node (next_of round (walked_on f node round).kind))

  -- when the walk is over, none
  pub left_over : (round : Round) → is_over_of round ≡ true → left_in f node round ≡ []
  unfolding left_in is_over_of edges_from parts_over
  left_over round o =
      let e : round.count - 1 - round.taken ≡ 0 = omega (arith, leb-true round.count (round.taken + 1) o) in
      rw e

  -- ---- at the beginning, all of them

  abbrev n : ℕ
  n = corner_count (polygon f node.polygon)

  left_begin_parts : left_in f node (begin_round its node) ≡ parts_over f node RightNonObservable (others (count_for its node) (entry_for its node))
  unfolding left_in begin_round begin_of others
  left_begin_parts =
      let e : count_for its node - 1 - 0 ≡ count_for its node - 1 = omega arith in
      rw e

  -- a node's: the walk of `successors_in`
  abbrev corners : List Point
  corners = table n (λ i. vertex f (corner (polygon f node.polygon) i))

  node_parts : node.seed ≡ false → (entry : ℕ) → entry < n → (kind : SuccessorType) (i k : ℕ) → i + k ≤ n - 1
      → parts_over f node kind (edges_from n entry i k) ≡ walk_of node.root node.interval corners kind (edges_from n entry i k)
  unfolding parts_over edges_from walk_of
  node_parts e entry l kind i zero b = refl
  node_parts e entry l kind i (suc k) b =
      let j = after_entry n entry i in
      let its = edge_in_list f node.polygon j (another n entry l i (omega arith)).0 in
      let walk = walk_edge_of node.root node.interval (edge_of corners j) kind in
      rw (
        walk_of_node node (edge f node.polygon j) kind e,
        its,
        array_holds_the_parts node.root node.interval (edge_of corners j) kind,
        kind_is_the_walk's node.root node.interval (edge_of corners j) kind,
        node_parts e entry l walk.kind (suc i) k (omega arith),
      )

  -- the seed's: every edge whole
  seed_edge : (i : ℕ) → after_entry (n + 1) n i ≡ i
  unfolding after_entry
  seed_edge i =
      let e : n + 1 + i - (n + 1) ≡ i = omega arith in
      wrapped_past (n + 1) (n + 1 + i) (omega arith) ∙ e

  seed_parts : node.seed ≡ true → (kind : SuccessorType) (i k : ℕ) → parts_over f node kind (edges_from (n + 1) n i k) ≡ from (whole_edge f node) i k
  unfolding parts_over edges_from from whole_edge whole_of one_of
  seed_parts e kind i zero = refl
  seed_parts e kind i (suc k) = rw (seed_edge i, walk_of_seed node (edge f node.polygon i) kind e, seed_parts e Observable (suc i) k)

  candidates_of_seed : node.seed ≡ true → candidates f node ≡ whole_edges f node
  unfolding candidates
  candidates_of_seed e = rw e

  candidates_of_node : node.seed ≡ false → candidates f node ≡ successors_in f node
  unfolding candidates
  candidates_of_node e = rw e

  of_seed : node.seed ≡ true
      → parts_over f node RightNonObservable (others (count_for (polygon f node.polygon) node) (entry_for (polygon f node.polygon) node))
      ≡ candidates f node
  unfolding whole_edges others
  of_seed e =
      let z : n + 1 - 1 ≡ n = omega arith in
      rw (count_of_seed (polygon f node.polygon) node e, entry_of_seed (polygon f node.polygon) node e, z, candidates_of_seed e)
      (seed_parts e RightNonObservable 0 n ∙ sym (table_is_from n (whole_edge f node)))

  entered_in : node.seed ≡ false → entry_of f node < n
  entered_in e = rw (its_polygon plan vs ps node h) (h.entered e)

  entry_is : node.seed ≡ false → entry_for (polygon f node.polygon) node ≡ entry_of f node
  unfolding entry_of
  entry_is e = entry_of_node (polygon f node.polygon) node e

  of_node : node.seed ≡ false
      → parts_over f node RightNonObservable (others (count_for (polygon f node.polygon) node) (entry_for (polygon f node.polygon) node))
      ≡ candidates f node
  unfolding successors_in successors_of others
  of_node e =
      rw (count_of_node (polygon f node.polygon) node e, entry_is e, candidates_of_node e, as_many_corners f node.polygon)
      (node_parts e (entry_of f node) (entered_in e) RightNonObservable 0 (n - 1) (omega arith))

  pub left_begin : left_in f node (begin_round its node) ≡ candidates f node
  left_begin =
      left_begin_parts ∙ ap (λ (q : Polygon). parts_over f node RightNonObservable (others (count_for q node) (entry_for q node)))
      (sym (its_polygon plan vs ps node h)) ∙ by_seed node of_seed of_node
