-- The world of a floor and a question is lawful, so that all that is proved of judge and true routes over any lawful world holds of it. Assumes nothing.
use Prim.Native.Nat.{ℕ, ◌+◌, ◌*◌, ◌/◌, ◌≤◌, ◌<◌, ◌^◌}
use native.Mathlib.Decide.{dec_lt}
use native.Mathlib.Omega.{arith}
use mathlib.Core.Path.{◌≡◌, subst}
use mathlib.Core.Bool.{Bool, true, false, cond}
use mathlib.Core.List.{List, []}
use lib.Dec.{eqb}
use lib.ListN.{length, get_or, get_or-eq_default}
use Rattle.std.specs.Prelude.{Some}
use Rattle.word.specs.Word.{Bytes}
use Rattle.word.proofs.Laws.{word_below}
use Rattle.counts.specs.Counts.{table}
use Rattle.counts.proofs.Laws.{get_or_table, length_table}
use Rattle.walk.specs.declared.Successor.{Successor}
use Rattle.stored.specs.Stored.{polygon_in, Floor, Polygon, unused, slot_at, polygon_at, polygons_of, floor_of, corner, neighbour, corner_after, polygon}
use Rattle.route.specs.declared.Step.{Step}
use Rattle.route.specs.Step.{Held}
use Rattle.route.specs.World.{Lawful, ◌∈◌}
use Rattle.route.proofs.Bytes.{seed_is_32, end_is_32}
use Rattle.steps.specs.declared.Trip.{Trip}
use Rattle.steps.specs.declared.Node.{Node}
use Rattle.steps.specs.Steps.{step_of, steps_from, candidates}
use Rattle.steps.specs.World.{is_in_goal, world_in}
use Rattle.walk.proofs.All.{all_turned}
use Rattle.steps.proofs.Made.{Over, yes_tells, every_step_from}
use Rattle.steps.proofs.Held.{HeldSuccessor, candidates_held, clipped_held}

-- ---- the numbers of a polygon's slots are u32

get_or_below : (k : ℕ) (l : List ℕ) (d : ℕ) → ((i : ℕ) → i < length l → get_or l i d < k) → d < k → (i : ℕ) → get_or l i d < k
get_or_below k l d h e i = go (dec_lt i (length l))
  where
    go : Dec (i < length l) → get_or l i d < k
    go (yes b) = h i b
    go (no b) = rw (get_or-eq_default l d {n = i} (omega arith)) e

module _ (s : ℕ) (vs ps : List ℕ) (bytes : Bytes ps) where
  abbrev f : Floor
  f = floor_of s vs ps

  slot_below : (p i : ℕ) → slot_at s ps p i < 2 ^ 32
  unfolding slot_at
  slot_below p i = word_below ps (p * (s * 8) + i * 4) bytes

  table_below : (n : ℕ) (g : ℕ → ℕ) → ((i : ℕ) → g i < 2 ^ 32) → (i : ℕ) → get_or (table n g) i unused < 2 ^ 32
  table_below n g h =
      get_or_below (2 ^ 32) (table n g) unused
      (λ i l. rw (get_or_table n g i unused (subst (λ (k : ℕ). i < k) (length_table n g) l)) (h i))
      (omega arith)

  -- of a polygon that is listed, and of none
  record Slots (q : Polygon) : Type 0 where
    corner_u32 : (i : ℕ) → corner q i < 2 ^ 32
    neighbour_u32 : (i : ℕ) → neighbour q i < 2 ^ 32

  stored_slots : (p : ℕ) → Slots (polygon_at s ps p)
  unfolding polygon_at corner neighbour
  stored_slots p = record {
    corner_u32 = table_below s (slot_at s ps p) (slot_below p);
    neighbour_u32 = table_below s (λ i. slot_at s ps p (s + i)) (λ i. slot_below p (s + i));
  }

  no_slots : Slots (record { corners = []; neighbours = [] })
  unfolding corner neighbour
  no_slots = record { corner_u32 = λ i. omega arith; neighbour_u32 = λ i. omega arith }

  slots_u32 : (p : ℕ) → Slots (polygon f p)
  unfolding polygon_in polygons_of
  slots_u32 p = go (dec_lt p (length ps / (s * 8)))
    where
      unlisted : (p < length ps / (s * 8) → ⊥) → length (table (length ps / (s * 8)) (polygon_at s ps)) ≤ p
      unlisted l = rw (length_table (length ps / (s * 8)) (polygon_at s ps)) (omega arith)

      go : Dec (p < length ps / (s * 8)) → Slots (get_or (table (length ps / (s * 8)) (polygon_at s ps)) p (record { corners = []; neighbours = [] }))
      go (yes l) = rw (get_or_table (length ps / (s * 8)) (polygon_at s ps) p (record { corners = []; neighbours = [] }) l) (stored_slots p)
      go (no l) =
          rw (get_or-eq_default (table (length ps / (s * 8)) (polygon_at s ps)) (record { corners = []; neighbours = [] }) {n = p} (unlisted l)) no_slots

  after_u32 : (q : Polygon) → Slots q → (i : ℕ) → corner_after q i < 2 ^ 32
  unfolding corner_after
  after_u32 q h i = go (eqb (corner q (i + 1)) unused)
    where
      go : (b : Bool) → cond b (corner q 0) (corner q (i + 1)) < 2 ^ 32
      go true = h.corner_u32 0
      go false = h.corner_u32 (i + 1)

  -- ---- every step is held

  over_held : (node : Node) (c : Successor) → HeldSuccessor c → (t : Step) → Over f node c t → Held t
  over_held node c h t over =
      let q = slots_u32 node.polygon in
      let ends = clipped_held f node c.part.kind c.part.interval t.interval h over.seen in
      record {
        polygon_held = rw over.its_polygon (q.neighbour_u32 c.edge);
        first_held = rw over.its_first (q.corner_u32 c.edge);
        second_held = rw over.its_second (after_u32 (polygon f node.polygon) q c.edge);
        right_held = ends.0;
        left_held = ends.1;
      }

  pub steps_are_held : (goal : ℕ) (node : Node) (t : Step) → t ∈ steps_from f goal node → Held t
  steps_are_held goal node t m =
      every_step_from f node Held goal
      (all_turned HeldSuccessor (λ c. (t : Step) → step_of f node c ≡ Some t → Held t) (candidates f node)
      (λ c h t e. over_held node c h t (yes_tells f node c t e)) (candidates_held f node))
      t m

  -- ---- the world

  goal_ends_here : (goal : ℕ) (node : Node) → is_in_goal goal node ≡ true → steps_from f goal node ≡ []
  unfolding is_in_goal steps_from
  goal_ends_here goal node e = rw e

  pub lawful : (trip : Trip) → Lawful (world_in f trip)
  unfolding world_in
  lawful trip = record {
    steps_held = steps_are_held trip.to;
    seed_long = seed_is_32 trip.from trip.start;
    end_long = λ node. end_is_32 _ trip.goal _;
    goal_ends = goal_ends_here trip.to;
  }
