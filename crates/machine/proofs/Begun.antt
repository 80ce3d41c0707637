-- The state in which a search begins is sound, and so is the one in which it ends. Rests on specs/Sound. Assumes nothing.
use Prim.Native.Nat.{ℕ, ◌+◌, ◌*◌, ◌≤◌, ◌<◌}
use native.Mathlib.Omega.{arith}
use mathlib.Core.Path.{◌≡◌, refl, sym, ◌∙◌, subst}
use mathlib.Core.Bool.{Bool, true, false, cond}
use mathlib.Core.List.{List}
use lib.Dec.{T, eqb}
use lib.Ieee.{of_bits}
use Rattle.float.proofs.Tests.{untrue}
use lib.ListN.{length}
use Rattle.point.specs.declared.Point.{Point}
use Rattle.point.specs.Point as point
use Rattle.point.specs.Point.{same_of}
use Rattle.plan.specs.Plan.{polygon_count_in}
use Rattle.stored.specs.Stored.{Floor, floor_in}
use Rattle.edges.specs.Ground.{Ground}
use Rattle.route.specs.World.{◌∈◌}
use Rattle.route.specs.declared.Step.{Step}
use Rattle.steps.specs.declared.Node.{Node}
use Rattle.steps.specs.Steps.{steps_from, seed_node}
use Rattle.going.specs.Going.{Stands}
use Rattle.going.proofs.Stands.{seed_stands}
use Rattle.queue.specs.Queue.{none, Tree}
use Rattle.queue.proofs.Queued.{queued_is, tree_of_own}
use Rattle.queue.proofs.Lent.{cleared_length, cleared_tree}
use Rattle.machine.specs.declared.Task.{Task}
use Rattle.machine.specs.declared.Finish.TheVariants.{Filled}
use Rattle.places.specs.Layout.{floats_per_place, words_per_place, polygon_cell, seed_kind, Work, Room, word_at, node_at, parent_at, depth_at, number_at, f_at, is_queued}
use Rattle.places.specs.Layout.{put_floats, put_words, record_put}
use Rattle.machine.specs.Search.{State}
use Rattle.machine.specs.Search as search
use Rattle.machine.specs.Sound.{is_plus, Held, Sound, OnRecord, Numbered}
use Rattle.places.proofs.Rows.{node_same, node_put, polygon_put, parent_put, depth_put, number_put, put_floats_length, put_words_length, record_length}
use Rattle.places.proofs.Rows.{record_beside}
use Rattle.places.proofs.Records.{record_root_there, record_for_new}
use Rattle.machine.proofs.Kept.{Origins, sound_made_all}
use Rattle.machine.proofs.Turning.{Finishes, sound_run}

module _ (plan vs ps : List ℕ) (t : Task) (g : Ground plan vs ps) (listed : t.trip.from < polygon_count_in plan) (w : Work) (room : Room t.places w)
    (places : 1 ≤ t.places) where
  abbrev f : Floor
  f = floor_in plan vs ps

  abbrev n : ℕ
  n = t.places

  abbrev start : Point
  start = t.trip.start

  abbrev seed : Node
  seed = seed_node start t.trip.from

  abbrev first : State
  first = search.begun f t seed w

  floats_room : (0 + 1) * floats_per_place ≤ length w.floats
  floats_room = omega (arith, room.floats_room, places)

  words_room : (0 + 1) * words_per_place ≤ length w.words
  words_room = omega (arith, room.words_room, places)

  seeded : eqb 1 1 ≡ seed.seed
  unfolding seed_node
  seeded = refl

  -- the seed has left no other polygon than its own
  its_left : word_at (put_words w.words 0 seed_kind seed 0 0 0) 0 polygon_cell ≡ seed.left
  unfolding seed_node
  its_left = polygon_put w.words 0 seed_kind seed 0 0 0 words_room w.floats point.zero floats_room

  its_seed : node_at first.work 0 ≡ seed
  unfolding search.begun search.planted
  its_seed =
      node_same (record_put (put_floats w.floats 0 seed point.zero) 0 seed.root point.zero) (put_floats w.floats 0 seed point.zero) 0
      (record_beside (put_floats w.floats 0 seed point.zero) 0 seed.root point.zero 0) (put_words w.words 0 seed_kind seed 0 0 0)
      (put_words w.words 0 seed_kind seed 0 0 0) (λ k b. refl) refl
      ∙ node_put w.words 0 seed_kind seed 0 0 0 words_room w.floats point.zero floats_room seeded its_left

  its_parent : parent_at first.work 0 ≡ 0
  unfolding search.begun search.planted
  its_parent = parent_put w.words 0 seed_kind seed 0 0 0 words_room

  its_depth : depth_at first.work 0 ≡ 0
  unfolding search.begun search.planted
  its_depth = depth_put w.words 0 seed_kind seed 0 0 0 words_room

  its_number : number_at first.work 0 ≡ 0
  unfolding search.begun search.planted
  its_number = number_put w.words 0 seed_kind seed 0 0 0 words_room

  pub on_first : same_of start start ≡ true → OnRecord first seed.root 0
  unfolding search.begun search.planted seed_node
  on_first self = record {
    found = record_for_new first.work.floats (put_floats w.floats 0 seed point.zero) 0 start (λ k l. absurd (omega arith)) (omega arith)
        (record_root_there (put_floats w.floats 0 seed point.zero) 0 start point.zero
        (rw (put_floats_length w.floats 0 seed point.zero) floats_room)) self;
    low = omega arith;
  }

  abbrev nothing : ℕ → Bool
  nothing i = false

  few : n ≤ none
  few = omega (arith, room.few)

  empty_tree : Tree (f_at first.work) n nothing first.work.queue
  unfolding search.begun search.planted
  empty_tree = cleared_tree (f_at (search.planted f t seed w)) n nothing w.queue room.queue_room (λ i l. refl)

  pub none_queued : (i : ℕ) → i < n → is_queued n first.work i ≡ false
  none_queued i l = queued_is (f_at first.work) n nothing first.work.queue few empty_tree i l

  seed_plus : T (is_plus seed.length)
  unfolding seed_node of_bits
  seed_plus = tt

  seed_points : seed.points ≤ 0
  unfolding seed_node
  seed_points = omega arith

  first_room : Room n first.work
  unfolding search.begun search.planted
  first_room = record {
    floats_room = rw (record_length (put_floats w.floats 0 seed point.zero) 0 seed.root point.zero, put_floats_length w.floats 0 seed point.zero)
        room.floats_room;
    words_room = rw (put_words_length w.words 0 seed_kind seed 0 0 0) room.words_room;
    queue_room = rw (cleared_length (2 * n) w.queue room.queue_room) room.queue_room;
    few = room.few;
  }

  first_held : Held plan vs ps first.work 0
  first_held = record {
    stands = subst (Stands plan vs ps) (sym its_seed) (seed_stands plan vs ps g start t.trip.from listed);
    plus = subst (λ (m : Node). T (is_plus m.length)) (sym its_seed) seed_plus;
    points_few = rw (its_seed, its_depth) seed_points;
    depth_few = rw its_depth (omega arith);
  }

  pub sound_begun : Sound plan vs ps t seed first
  unfolding search.begun
  sound_begun = record {
    fit = record {
      room = first_room;
      records_in = omega arith;
      queue = record {
        tree = tree_of_own (f_at first.work) n nothing first.work.queue few empty_tree;
        below = λ i l q. untrue (sym (none_queued i l) ∙ q);
      };
    };
    some = omega arith;
    taken_in = places;
    first_is_seed = its_seed;
    seed_parent = its_parent;
    seed_depth = its_depth;
    held = λ i l. subst (Held plan vs ps first.work) (lowest i l) first_held;
    entered = λ i z l. absurd (omega arith);
    no_nan = λ i l q. untrue (sym (none_queued i l) ∙ q);
    no_minus = λ i l q. untrue (sym (none_queued i l) ∙ q);
  }
    where
      lowest : (i : ℕ) → i < 1 → 0 ≡ i
      lowest i l = omega arith

  -- the seed keeps the number of the first record, which is its root's
  numbered_begun : same_of start start ≡ true → Numbered first
  numbered_begun self i l = subst (λ (m : ℕ). OnRecord first (node_at first.work m).root (number_at first.work m)) (lowest i l) own
    where
      lowest : (i : ℕ) → i < first.counts.taken → 0 ≡ i
      lowest i l = unfold search.begun in omega arith

      own : OnRecord first (node_at first.work 0).root (number_at first.work 0)
      own = rw (its_seed, its_number) (on_first self)

  -- ---- the seed's steps are made, and the search runs

  pub seed_origins : Origins plan vs ps t seed first (search.seed_origin f t seed)
  unfolding search.seed_origin search.begun
  seed_origins = record { place_in = omega arith; node_is = sym its_seed; depth_is = sym its_depth }

  abbrev steps : List Step
  steps = steps_from f t.trip.to seed

  pub seed_steps : (x : Step) → x ∈ steps → x ∈ steps_from f t.trip.to (search.seed_origin f t seed).node
  unfolding search.seed_origin
  seed_steps x m = m

  abbrev made_first : search.Making
  made_first = search.made_all f t first (search.seed_origin f t seed) steps

  pub outset_is : search.outset f t w ≡ made_first
  unfolding search.outset
  outset_is = refl

  pub sound_seeded : Sound plan vs ps t seed (search.outset f t w).state
  sound_seeded =
      rw outset_is (sound_made_all plan vs ps t seed g steps first (search.seed_origin f t seed) sound_begun seed_origins seed_steps).sound

  pub numbered_seeded : same_of start start ≡ true → Numbered (search.outset f t w).state
  numbered_seeded self =
      rw outset_is
      ((sound_made_all plan vs ps t seed g steps first (search.seed_origin f t seed) sound_begun seed_origins seed_steps).numbered (numbered_begun self))

  -- however it ends, what it leaves is sound, and where it arrives is a place in the goal polygon
  pub sound_searched : (budget : ℕ) (table : List ℕ) → Finishes plan vs ps t seed g (search.searched_from f t budget w table)
  unfolding search.searched_from
  sound_searched budget table = go (search.outset f t w).full
    where
      x : search.Searching
      x = search.searching (search.outset f t w).state search.calm table

      go : (b : Bool) → Finishes plan vs ps t seed g (cond b (search.closing x Filled) (search.run f t budget x))
      go true = record { sound = sound_seeded; arrives = tt }
      go false = sound_run plan vs ps t seed g budget x sound_seeded
