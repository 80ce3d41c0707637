-- The rounds of a node's polygon, on an accepted floor: every edge that is on is one of the polygon's, and yields one to three parts. Assumes nothing.
use Prim.Native.Nat.{ℕ, ◌+◌, ◌-◌, ◌≤◌, ◌<◌}
use native.Mathlib.Omega.{arith}
use mathlib.Core.Path.{◌≡◌, refl, sym, ◌∙◌}
use mathlib.Core.Bool.{Bool, true, false}
use mathlib.Core.List.{List}
use borrow.Author.Tests.{leb-false, lt-ltb}
use lib.Dec.{eqb}
use lib.ListN.{length}
use Rattle.std.specs.Prelude.{Option, Some, IsSome}
use Rattle.std.proofs.lemmas.Option.{same_Some}
use Rattle.counts.specs.Counts.{first, below}
use Rattle.counts.proofs.Laws.{first_is, first_before, first_at}
use Rattle.point.specs.declared.Segment.{Segment}
use Rattle.cut.specs.declared.SuccessorType.{SuccessorType}
use Rattle.walk.specs.declared.round.Round.{Round}
use Rattle.walk.specs.declared.Walked.{Walked}
use Rattle.walk.specs.Walk.{walk_edge_of, walked_of, one_of}
use Rattle.walk.specs.Turns.{begin_of, is_over_of, edge_number_of, next_of}
use Rattle.walk.proofs.Laws.{count_is_one_to_three, array_is_of_three, another}
use Rattle.stored.specs.Stored.{Floor, Polygon, record_in, floor_in, corner, corner_count, polygon, edge, edge_of}
use Rattle.stored.proofs.Records.{polygon_read, count_slots}
use Rattle.steps.specs.declared.Node.{Node}
use Rattle.steps.specs.Steps.{place_of, entry_of}
use Rattle.going.specs.Going.{whole_of, walk_by, entry_for, count_for, begin_round, walked_at, walked_on, Yielded, Stands, Goes}

-- ---- a node is the seed, or it is not

-- what holds of both is shown of each
pub by_seed : {A : Type 0} (node : Node) → (node.seed ≡ true → A) → (node.seed ≡ false → A) → A
by_seed {A} node seeded other = go node.seed refl
  where
    go : (b : Bool) → node.seed ≡ b → A
    go true e = seeded e
    go false e = other e

-- ---- one edge

module _ (node : Node) (edge : Segment) (kind : SuccessorType) where
  pub walk_of_seed : node.seed ≡ true → walk_by node edge kind ≡ whole_of edge
  unfolding walk_by
  walk_of_seed e = rw e

  pub walk_of_node : node.seed ≡ false → walk_by node edge kind ≡ walked_of (walk_edge_of node.root node.interval edge kind)
  unfolding walk_by
  walk_of_node e = rw e

  one_whole : (1 ≤ (whole_of edge).count) × ((whole_of edge).count ≤ 3)
  unfolding whole_of one_of
  one_whole = (omega arith, omega arith)

  three_whole : length (whole_of edge).parts ≡ 3
  unfolding whole_of one_of
  three_whole = refl

  pub one_to_three_on : (1 ≤ (walk_by node edge kind).count) × ((walk_by node edge kind).count ≤ 3)
  one_to_three_on =
      by_seed node
      (λ e. rw (walk_of_seed e) one_whole)
      (λ e. rw (walk_of_node e) (count_is_one_to_three node.root node.interval edge kind))

  pub array_of_three_on : length (walk_by node edge kind).parts ≡ 3
  array_of_three_on =
      by_seed node
      (λ e. rw (walk_of_seed e) three_whole)
      (λ e. rw (walk_of_node e) (array_is_of_three node.root node.interval edge kind))

pub at_yields : (f : Floor) (node : Node) (i : ℕ) (kind : SuccessorType) → Yielded (walked_at f node i kind)
unfolding walked_at
at_yields f node i kind =
    let on = edge f node.polygon i in
    record { few = (one_to_three_on node on kind).1; three = array_of_three_on node on kind }

pub on_yields : (f : Floor) (node : Node) (round : Round) → Yielded (walked_on f node round)
unfolding walked_on
on_yields f node round = at_yields f node (edge_number_of round) round.kind

-- what the code walks, by the number of the round's edge
pub walked_as_on : (f : Floor) (node : Node) (round : Round) {q : Polygon} {i : ℕ} {w : Walked} → q ≡ polygon f node.polygon
    → i ≡ edge_number_of round → w ≡ walk_by node (edge_of f.vertices q i) round.kind → w ≡ walked_on f node round
unfolding walked_on walked_at edge
walked_as_on f node round s e d = rw (← e, ← s) d

-- ---- round the polygon

-- a round of the node's polygon that is not over
pub record Turning (plan polygons : List ℕ) (node : Node) (round : Round) : Type 0 where
  pub entry_in : round.entry < round.count
  pub taken_in : round.taken < round.count
  pub edge_in : edge_number_of round < corner_count (record_in plan polygons node.polygon)

abbrev pub edges_left : Round → ℕ
edges_left round = round.count - round.taken

module _ (q : Polygon) (node : Node) where
  pub entry_of_seed : node.seed ≡ true → entry_for q node ≡ corner_count q
  unfolding entry_for
  entry_of_seed e = rw e

  pub entry_of_node : node.seed ≡ false → entry_for q node ≡ place_of q (corner_count q) node.second
  unfolding entry_for
  entry_of_node e = rw e

  pub count_of_seed : node.seed ≡ true → count_for q node ≡ corner_count q + 1
  unfolding count_for
  count_of_seed e = rw e

  pub count_of_node : node.seed ≡ false → count_for q node ≡ corner_count q
  unfolding count_for
  count_of_node e = rw e

  -- a corner that is found among the slots is where it is among the corners
  found_among : node.seed ≡ false → entry_for q node < count_for q node → (s : ℕ) → corner_count q ≤ s → place_of q s node.second ≡ entry_for q node
  unfolding place_of
  found_among e low s few =
      let at = entry_of_node e in
      let found : first (corner_count q) (λ i. eqb (corner q i) node.second) < corner_count q = rw (at, count_of_node e) at low in
      first_is s (λ i. eqb (corner q i) node.second) (first (corner_count q) (λ i. eqb (corner q i) node.second)) (omega (arith, found, few))
      (first_before (corner_count q) (λ i. eqb (corner q i) node.second)) (λ _. first_at (corner_count q) (λ i. eqb (corner q i) node.second) found)
      ∙ sym at

  -- the round that the code begins with, from the corner count that it found
  module _ {m : ℕ} (found : m ≡ corner_count q) {round : Round} where
    pub seed_begins : node.seed ≡ true → round ≡ begin_of m (m + 1) → round ≡ begin_round q node
    unfolding begin_round
    seed_begins e r = rw (entry_of_seed e, count_of_seed e, ← found) r

    pub node_begins : node.seed ≡ false → {entry : ℕ} → entry ≡ entry_for q node → round ≡ begin_of entry m → round ≡ begin_round q node
    unfolding begin_round
    node_begins e at r = rw (count_of_node e, ← found, ← at) r

-- sought among all slots
module _ (q : Polygon) (node : Node) (other : node.seed ≡ false) (low : entry_for q node < count_for q node) (s : ℕ) (read : s ≡ length q.corners)
    (found : Option ℕ) (at : found ≡ below s (place_of q s node.second)) where
  among : place_of q s node.second ≡ entry_for q node
  among = found_among q node other low s (rw read (count_slots q))

  inside : entry_for q node < s
  inside = omega (arith, low, count_of_node q node other, read, count_slots q)

  is_found : found ≡ Some (entry_for q node)
  is_found = at ∙ rw (among, lt-ltb _ _ inside) refl

  pub some_found : IsSome found
  some_found = rw is_found

  module _ (entry : ℕ) (its : found ≡ Some entry) where
    pub entry_among : entry ≡ entry_for q node
    entry_among = same_Some entry (entry_for q node) (sym its ∙ is_found)

    pub entry_counted : entry ≤ corner_count q
    entry_counted = omega (arith, entry_among, low, count_of_node q node other)

module _ (plan vs ps : List ℕ) (node : Node) (h : Stands plan vs ps node) where
  abbrev f : Floor
  f = floor_in plan vs ps

  abbrev q : Polygon
  q = record_in plan ps node.polygon

  pub its_polygon : polygon f node.polygon ≡ q
  its_polygon = polygon_read h.listed.polygons_planned node.polygon h.listed.listed

  abbrev n : ℕ
  n = corner_count q

  pub its_entry : node.seed ≡ false → place_of q n node.second < n
  unfolding entry_of
  its_entry e = rw its_polygon at (h.entered e)

  pub three_at_least : 3 ≤ count_for q node
  three_at_least =
      by_seed node
      (λ e. rw (count_of_seed q node e) (omega (arith, h.listed.corners.three)))
      (λ e. rw (count_of_node q node e) h.listed.corners.three)

  pub entry_in_count : entry_for q node < count_for q node
  entry_in_count =
      by_seed node
      (λ e. rw (count_of_seed q node e, entry_of_seed q node e) (omega arith))
      (λ e. rw (count_of_node q node e, entry_of_node q node e) (its_entry e))

  -- a round of the node's polygon that is not over has one of its edges on
  module _ (round : Round) (goes : Goes q node round) (on : is_over_of round ≡ false) where
    pub more_than_taken : round.taken + 1 < round.count
    unfolding is_over_of
    more_than_taken = leb-false round.count (round.taken + 1) on

    entry_in : round.entry < round.count
    entry_in = rw (goes.entry_is, goes.count_is) entry_in_count

    other_edge : (edge_number_of round < round.count) × (edge_number_of round ≡ round.entry → ⊥)
    unfolding edge_number_of
    other_edge = another round.count round.entry entry_in round.taken (omega (arith, more_than_taken))

    edge_of_polygon : edge_number_of round < n
    edge_of_polygon =
        by_seed node
        (λ e.
        let c : round.count ≡ n + 1 = goes.count_is ∙ count_of_seed q node e in
        let a : round.entry ≡ n = goes.entry_is ∙ entry_of_seed q node e in
        below_last (edge_number_of round) n (omega (arith, c, other_edge.0)) (λ same. other_edge.1 (same ∙ sym a)))
        (λ e.
        let c : round.count ≡ n = goes.count_is ∙ count_of_node q node e in
        omega (arith, c, other_edge.0))
      where
        below_last : (a b : ℕ) → a < b + 1 → (a ≡ b → ⊥) → a < b
        below_last a b l d = omega arith

    pub turning : Turning plan ps node round
    turning = record { entry_in = entry_in; taken_in = omega (arith, more_than_taken); edge_in = edge_of_polygon }

    pub next_goes : (kind : SuccessorType) → Goes q node (next_of round kind)
    unfolding next_of
    next_goes kind = record { entry_is = goes.entry_is; count_is = goes.count_is; taken_in = more_than_taken }

    -- an edge fewer is left
    pub fewer_left : (kind : SuccessorType) → edges_left (next_of round kind) < edges_left round
    unfolding next_of
    fewer_left kind = omega (arith, more_than_taken)

  pub begin_goes : Goes q node (begin_round q node)
  unfolding begin_round begin_of
  begin_goes = record { entry_is = refl; count_is = refl; taken_in = omega (arith, three_at_least) }
