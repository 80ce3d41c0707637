-- An accepted file can be read off, and what is read off it are the route's points; and what the listing loop keeps: the points that are left, put
-- behind those that stand, are all the points. Rests on what the judge's loop keeps (judge, proofs/Following) and on the chain record by record
-- (proofs/Chained). Assumes nothing.
use Prim.Native.Nat.{ℕ, zero, suc, ◌+◌, ◌-◌, ◌*◌, ◌/◌, ◌≤◌, ◌<◌}
use native.Mathlib.Nat.{zero-add}
use native.Mathlib.Omega.{arith}
use mathlib.Core.Path.{◌≡◌, refl, sym, ap, ap₂, ◌∙◌, subst}
use mathlib.Core.Bool.{true, false, ◌&&◌}
use mathlib.Core.List.{List, [], ◌∷◌}
use borrow.Author.Tests.{lt-ltb, ltb-true}
use lib.Dec.{ltb}
use lib.Ieee.{Float}
use lib.ListN.{length}
use lib.Seq.{sets}
use Rattle.float.proofs.Tests.{and_true}
use Rattle.word.specs.Word.{Bytes}
use Rattle.plan.specs.Plan.{polygon_count_in}
use Rattle.point.specs.declared.Point.{Point}
use Rattle.point.specs.Point.{same_of}
use Rattle.stored.specs.Stored.{vertices_of, floor_in}
use Rattle.stored.proofs.Records.{vertex_count_lem}
use Rattle.edges.specs.Ground.{Ground}
use Rattle.std.specs.Prelude.{Some, Ok}
use Rattle.route.specs.World.{World}
use Rattle.route.specs.Record.{record_at, records}
use Rattle.route.specs.Judge.{find_step, judge_of}
use Rattle.route.proofs.Turns.{length_gives}
use Rattle.records.specs.Records.{step_in}
use Rattle.steps.specs.declared.Node.{Node}
use Rattle.steps.specs.declared.Trip.{Trip}
use Rattle.steps.specs.Steps.{steps_from, enter}
use Rattle.steps.specs.World.{world_in}
use Rattle.seek.proofs.Reading.{read_standing}
use Rattle.judge.proofs.Following.{Follows, seed_points, few_points, follows_begin, follows_on, follows_stops}
use Rattle.readout.specs.Points.{chain_from, chain_of, last_points, points_along, points_of}
use Rattle.readout.specs.ReadOff.{read_from, leads, seed_of, points_read, Readable}
use Rattle.readout.specs.Readout.{floats_of, put_root}
use Rattle.readout.proofs.Chained.{accepted_length, accepted_seed, accepted_stops_not, step_places, step_counts, step_long, some_point, along_end}
use Rattle.readout.proofs.Ended.{count_is_written}

-- ---- an accepted file can be read off

module _ {plan vs ps : List ℕ} (g : Ground plan vs ps) (trip : Trip) (file : List ℕ) (file-bytes : Bytes file)
    (listed : trip.from < polygon_count_in plan) (accepted : judge_of (world_in (floor_in plan vs ps) trip) file ≡ Ok tt) where
  abbrev vertices : List Point
  vertices = vertices_of vs

  abbrev w : World Node
  w = world_in (floor_in plan vs ps) trip

  abbrev last : ℕ
  last = length file / 32 - 1

  -- each middle record is a step, and is read as that step
  found : {node : Node} {i : ℕ} → Follows plan vs ps trip file last node i → i < last
      → find_step (steps_from (floor_in plan vs ps) trip.to node) (record_at file i) ≡ Some (step_in file i)
  found {node} {i} h l =
      read_standing file file-bytes i (omega (arith, h.inside, l)) g trip.to node h.stands
      (λ e. accepted_stops_not w file i accepted (follows_stops g trip file h l e))

  on : {node : Node} {i : ℕ} → Follows plan vs ps trip file last node i → i < last
      → Follows plan vs ps trip file last (enter vertices node (step_in file i)) (i + 1)
  on h l = follows_on g trip file h (step_in file _) l (found h l) refl

  below : (v : ℕ) → v < length vs / 8 → ltb v (length vertices) ≡ true
  below v l = rw (vertex_count_lem vs) (lt-ltb v (length vs / 8) l)

  chain_leads : (left : ℕ) (node : Node) (i : ℕ) → i + left ≡ last → Follows plan vs ps trip file last node i
      → leads vertices file node i left ≡ true
  unfolding leads
  chain_leads zero node i e h = refl
  chain_leads (suc left) node i e h =
      let counted = g.vertices_planned.counted in
      rw (
        below node.first (omega (arith, counted, h.stands.first_listed)),
        below node.second (omega (arith, counted, h.stands.second_listed)),
        chain_leads left (enter vertices node (step_in file i)) (i + 1) (omega arith) (on h (omega arith)),
      )

  chain_is_read : (left : ℕ) (node : Node) (i : ℕ) → i + left ≡ last → Follows plan vs ps trip file last node i
      → read_from vertices file node i left ≡ chain_from w file node i left
  unfolding read_from chain_from world_in
  chain_is_read zero node i e h = refl
  chain_is_read (suc left) node i e h =
      let next = enter vertices node (step_in file i) in
      rw (found h (omega arith)) (ap (λ (l : List Node). next ∷ l) (chain_is_read left next (i + 1) (omega arith) (on h (omega arith))))

  begun : Follows plan vs ps trip file last (seed_of trip) 1
  unfolding world_in
  begun = follows_begin g trip file last refl listed (accepted_length w file accepted) (accepted_seed w file accepted) refl

  as_many : 1 + (length file / 32 - 2) ≡ last
  as_many = let h = length_gives file (accepted_length w file accepted) in omega arith

  pub read_is_route : points_read vertices trip file ≡ points_of w trip.goal file
  unfolding points_read points_of chain_of records world_in
  read_is_route = ap (points_along trip.goal (seed_of trip)) (chain_is_read (length file / 32 - 2) (seed_of trip) 1 as_many begun)

  pub accepted_readable : Readable vertices trip file
  unfolding records
  accepted_readable = record {
    whole = accepted_length w file accepted;
    leading = chain_leads (length file / 32 - 2) (seed_of trip) 1 as_many begun;
    counted = count_is_written (floor_in plan vs ps) trip file accepted ∙ ap length (sym read_is_route);
  }

-- ---- what the listing loop keeps

-- the points from a node on
abbrev pub left_from : List Point → Trip → List ℕ → ℕ → Node → ℕ → List Point
left_from vertices trip file last node i = points_along trip.goal node (read_from vertices file node i (last - i))

pub record Places (vertices : List Point) (trip : Trip) (file : List ℕ) (last : ℕ) (out₀ out : List Float) (node : Node) (i : ℕ) : Type 0 where
  pub begun : 1 ≤ i
  pub upto : i ≤ last
  pub few : last ≤ 4096
  pub inside : (last + 1) * 32 ≤ length file
  pub points : node.points + 1 ≤ i
  pub leading : leads vertices file node i (last - i) ≡ true
  pub long : length out ≡ length out₀
  pub placed : sets out (node.points * 2) (floats_of (left_from vertices trip file last node i)) ≡ sets out₀ 0 (floats_of (points_read vertices trip file))
  pub count : node.points + length (left_from vertices trip file last node i) ≡ length (points_read vertices trip file)

module _ (vertices : List Point) (trip : Trip) (file : List ℕ) where
  pub places_begin : Readable vertices trip file → (last : ℕ) → last ≡ length file / 32 - 1 → (out : List Float) {node : Node}
      → node ≡ seed_of trip
      → Places vertices trip file last out out node 1
  unfolding points_read records
  places_begin h last e out b =
      let g = length_gives file h.whole in
      let n : last - 1 ≡ length file / 32 - 2 = omega arith in
      let none = seed_points trip.start trip.from in
      let from_seed : ℕ → List Point = λ left. points_along trip.goal (seed_of trip) (read_from vertices file (seed_of trip) 1 left) in
      subst (λ (x : Node). Places vertices trip file last out out x 1) (sym b)
      (record {
        begun = omega arith;
        upto = omega arith;
        few = omega arith;
        inside = omega arith;
        points = omega (arith, none);
        leading = ap (leads vertices file (seed_of trip) 1) n ∙ h.leading;
        long = refl;
        placed = ap₂ (λ (k left : ℕ). sets out (k * 2) (floats_of (from_seed left))) none n;
        count = ap₂ (λ (k left : ℕ). k + length (from_seed left)) none n ∙ zero-add _;
      })

  module _ (last : ℕ) (out₀ out : List Float) (node : Node) (i : ℕ) (h : Places vertices trip file last out₀ out node i) where
    -- a record more
    module _ (l : i < last) where
      abbrev next : Node
      next = enter vertices node (step_in file i)

      abbrev rest : List Node
      rest = read_from vertices file next (i + 1) (last - (i + 1))

      one_more : last - i ≡ suc (last - (i + 1))
      one_more = omega arith

      left_is : left_from vertices trip file last node i ≡ points_along trip.goal node (next ∷ rest)
      unfolding read_from
      left_is = rw one_more

      led : (node.first < length vertices) × ((node.second < length vertices) × (leads vertices file next (i + 1) (last - (i + 1)) ≡ true))
      unfolding leads
      led =
          let all : ltb node.first (length vertices) && (ltb node.second (length vertices) && leads vertices file next (i + 1) (last - (i + 1))) ≡ true
          = sym (ap (leads vertices file node i) one_more) ∙ h.leading in
          let one = and_true (ltb node.first (length vertices)) _ all in
          let two = and_true (ltb node.second (length vertices)) _ one.1 in
          (ltb-true _ _ one.0, (ltb-true _ _ two.0, two.1))

      pub first_listed : node.first < length vertices
      first_listed = led.0

      pub second_listed : node.second < length vertices
      second_listed = led.1.0

      pub places_on : {after : Node} {out' : List Float} → after ≡ next → out' ≡ put_root out node after
          → Places vertices trip file last out₀ out' after (i + 1)
      places_on {out' = out'} k d =
          subst (λ (n : Node). Places vertices trip file last out₀ out' n (i + 1)) (sym k)
          (subst (λ (o : List Float). Places vertices trip file last out₀ o next (i + 1)) (sym (d ∙ ap (put_root out node) k))
          (record {
            begun = omega arith;
            upto = omega arith;
            few = h.few;
            inside = h.inside;
            points = omega (arith, few_points vertices node (step_in file i), h.points);
            leading = led.1.1;
            long = step_long vertices trip.goal node (step_in file i) [] out ∙ h.long;
            placed =
                step_places vertices trip.goal node (step_in file i) rest out
                ∙ ap (λ (x : List Point). sets out (node.points * 2) (floats_of x)) (sym left_is)
                ∙ h.placed;
            count =
                step_counts vertices trip.goal node (step_in file i) rest
                ∙ ap (λ (x : List Point). node.points + length x) (sym left_is)
                ∙ h.count;
          }))

      -- where the root is another one, there is a place for it
      pub place_for_root : length (points_read vertices trip file) * 2 ≤ length out₀ → {after : Node} → after ≡ next
          → same_of after.root node.root ≡ false → node.points * 2 + 2 ≤ length out
      place_for_root room k c =
          let changed = subst (λ (n : Node). same_of n.root node.root ≡ false) k c in
          let some : 1 ≤ length (left_from vertices trip file last node i) = subst (λ (x : List Point). 1 ≤ length x) (sym left_is)
          (some_point vertices trip.goal node (step_in file i) rest changed) in
          omega (arith, some, room, h.count, h.long)

    -- the last points
    module _ (l : last ≤ i) where
      end_is : left_from vertices trip file last node i ≡ last_points trip.goal node
      unfolding read_from
      end_is =
          let n : last - i ≡ 0 = omega arith in
          rw n (along_end trip.goal node)

      pub place_for_last : length (points_read vertices trip file) * 2 ≤ length out₀
          → (node.points + length (last_points trip.goal node)) * 2 ≤ length out
      place_for_last room =
          let n : length (left_from vertices trip file last node i) ≡ length (last_points trip.goal node) = ap length end_is in
          omega (arith, n, room, h.count, h.long)

      pub places_end : {out' : List Float} → out' ≡ sets out (node.points * 2) (floats_of (last_points trip.goal node))
          → out' ≡ sets out₀ 0 (floats_of (points_read vertices trip file))
      places_end d = d ∙ ap (λ (x : List Point). sets out (node.points * 2) (floats_of x)) (sym end_is) ∙ h.placed
