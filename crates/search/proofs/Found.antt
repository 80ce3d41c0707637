-- A route that a search finds is a true route: the chain of parents is a trail into the goal polygon, and its bytes are the trail's. Rests on specs/Sound and
-- on route/specs/World. Assumes nothing.
use Prim.Native.Nat.{ℕ, zero, suc, ◌+◌, ◌*◌, ◌<◌}
use native.Mathlib.Decide.{dec_lt}
use native.Mathlib.Numerals.{add-one}
use native.Mathlib.Omega.{arith}
use mathlib.Core.Path.{◌≡◌, refl, ◌∙◌, subst}
use mathlib.Core.Bool.{true}
use mathlib.Core.List.{List, ◌++◌}
use borrow.Author.Tests.{eq-eqb}
use lib.ListN.{length, length-append}
use Rattle.stored.specs.Stored.{Floor, floor_in}
use Rattle.route.specs.Record.{seed_bytes, step_bytes}
use Rattle.route.specs.World.{World, Lawful, Trail, seeded, stepped, TrueRoute}
use Rattle.route.proofs.Bytes.{seed_is_32, end_is_32}
use Rattle.route.proofs.Trails.{trail_long}
use Rattle.steps.specs.declared.Node.{Node}
use Rattle.steps.specs.Steps.{seed_node}
use Rattle.steps.specs.World.{ending_of, is_in_goal, world_in}
use Rattle.machine.specs.declared.Task.{Task}
use Rattle.places.specs.Layout.{Work, node_at, step_at, parent_at, depth_at}
use Rattle.machine.specs.Search.{State}
use Rattle.machine.specs.Sound.{Entered, Sound}
use Rattle.writing.specs.Delivered.{chain_bytes, end_after, route_bytes, straight_bytes}

module _ (plan vs ps : List ℕ) (t : Task) where
  abbrev f : Floor
  f = floor_in plan vs ps

  abbrev world : World Node
  world = world_in f t.trip

  module _ (s : State) (h : Sound plan vs ps t (seed_node t.trip.start t.trip.from) s) where
    abbrev w : Work
    w = s.work

    abbrev first : List ℕ
    first = seed_bytes t.trip.from t.trip.start

    -- ---- the chain of a place

    abbrev chain : ℕ → List ℕ
    chain i = chain_bytes w first (depth_at w i) i

    abbrev Trailed : ℕ → Type 0
    Trailed i = Trail world (depth_at w i) (node_at w i) (chain i)

    chain_of_seed : Trailed 0
    unfolding chain_bytes world_in
    chain_of_seed = rw (h.first_is_seed, h.seed_depth) seeded

    chain_longer : (i : ℕ) → Entered f t w i → chain i ≡ chain (parent_at w i) ++ step_bytes (step_at w i)
    unfolding chain_bytes
    chain_longer i e = rw (e.deeper, add-one)

    chain_of_step : (i : ℕ) → Entered f t w i → Trailed (parent_at w i) → Trailed i
    unfolding world_in
    chain_of_step i e trail = rw (chain_longer i e, e.deeper, e.entered) (stepped trail e.permitted)

    chain_below : (m i : ℕ) → i < m → i < s.counts.taken → Trailed i
    chain_below zero i b l = absurd (omega arith)
    chain_below (suc m) i b l = go (dec_lt 0 i) (chain_below m)
      where
        go : Dec (0 < i) → ((j : ℕ) → j < m → j < s.counts.taken → Trailed j) → Trailed i
        go (yes z) lower =
            let e = h.entered i z l in
            chain_of_step i e (lower (parent_at w i) (omega (arith, e.lower, b)) (omega (arith, e.lower, l)))
        go (no z) lower =
            let zero_is : 0 ≡ i = omega arith in
            subst Trailed zero_is chain_of_seed

    pub chain_is_trail : (i : ℕ) → i < s.counts.taken → Trailed i
    chain_is_trail i l = chain_below (i + 1) i (omega arith) l

    -- ---- a place in the goal polygon

    pub route_is_true : (i : ℕ) → i < s.counts.taken → is_in_goal t.trip.to (node_at w i) ≡ true → TrueRoute world (route_bytes w t.trip i)
    unfolding route_bytes end_after world_in
    route_is_true i l arrived = record {
      steps = depth_at w i;
      few = omega (arith, (h.held i l).depth_few, l, h.taken_in, h.fit.room.few);
      last = node_at w i;
      bytes = chain i;
      trail = chain_is_trail i l;
      arrived = arrived;
      whole = refl;
    }

    -- a record for the seed, one for each step and one for the end
    pub route_long : Lawful world → (i : ℕ) → i < s.counts.taken → length (route_bytes w t.trip i) ≡ 32 * (depth_at w i + 2)
    unfolding route_bytes end_after
    route_long lawful i l =
        let goal = t.trip.goal in
        let ended = ending_of goal (node_at w i) in
        length-append (chain i) _ ∙ omega (arith, trail_long lawful (chain_is_trail i l), end_is_32 ended.points goal ended.length)

  -- ---- start and goal in one polygon

  pub straight_long : length (straight_bytes t.trip) ≡ 64
  unfolding straight_bytes end_after
  straight_long =
      let goal = t.trip.goal in
      let ended = ending_of goal (seed_node t.trip.start t.trip.from) in
      length-append (seed_bytes t.trip.from t.trip.start) _
      ∙ omega (arith, seed_is_32 t.trip.from t.trip.start, end_is_32 ended.points goal ended.length)

  pub straight_is_true : t.trip.from ≡ t.trip.to → TrueRoute world (straight_bytes t.trip)
  unfolding straight_bytes end_after world_in is_in_goal seed_node
  straight_is_true e = record {
    steps = 0;
    few = omega arith;
    last = seed_node t.trip.start t.trip.from;
    bytes = seed_bytes t.trip.from t.trip.start;
    trail = seeded;
    arrived = eq-eqb t.trip.from t.trip.to e;
    whole = refl;
  }
