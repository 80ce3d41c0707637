-- A place that is popped is not queued again, so the counted steps stay below the places that are taken. Rests on specs/Sound. Assumes nothing.
use Prim.Native.Nat.{ℕ, zero, suc, ◌+◌, ◌≤◌, ◌<◌}
use native.Mathlib.Omega.{arith}
use mathlib.Core.Path.{◌≡◌, refl, ap, ◌∙◌}
use mathlib.Core.Bool.{Bool, true, false, cond, ◌||◌}
use mathlib.Core.List.Memᴰ
use mathlib.Core.List.{List, [], ◌∷◌}
use borrow.Author.Tests.{leb-false}
use lib.Dec.{eqb, leb, ltb}
use lib.Ieee.{Float, binary32, add, is_nan}
use Rattle.std.specs.Prelude.{Option, Some, None}
use Rattle.machine.specs.declared.Finish.{Finish}
use Rattle.counts.specs.Counts.{tally}
use Rattle.counts.proofs.Tally.{tally_none, tally_more, tally_less}
use Rattle.helpers.specs.Helpers.{heuristic_of}
use Rattle.plan.specs.Plan.{polygon_count_in}
use Rattle.stored.specs.Stored.{Floor, floor_in}
use Rattle.edges.specs.Ground.{Ground}
use Rattle.route.specs.declared.Step.{Step}
use Rattle.route.specs.Step.{kind_number}
use Rattle.route.specs.World.{◌∈◌}
use Rattle.steps.specs.declared.Node.{Node}
use Rattle.steps.specs.Steps.{steps_from, seed_node, enter}
use Rattle.steps.specs.World.{is_in_goal}
use Rattle.queue.specs.Queue.{none}
use Rattle.queue.specs.Words.{queued_in}
use Rattle.places.specs.Layout.{Work, Room, node_at, is_queued, record_for, put_queued, least_in, f_at}
use Rattle.seen.specs.declared.Entry.{Entry}
use Rattle.seen.specs.declared.Entry.TheVariants.{New, Seen, NoRoom}
use Rattle.seen.specs.Table.{key_of, Remembered, remembered}
use Rattle.places.proofs.Queued.{put_queued_here, put_queued_other}
use Rattle.machine.specs.declared.Task.{Task}
use Rattle.machine.specs.declared.Origin.{Origin}
use Rattle.machine.specs.declared.Finish.TheVariants.{Arrived, Emptied, Filled, Stopped}
use Rattle.machine.specs.Search.{State, state_of, Making, making, took_place, counted, is_beaten, recorded, kept, queued, placed, taken}
use Rattle.machine.specs.Search.{made, made_all, origin_at, stepping, pursued, popped, begun, seed_origin, outset}
use Rattle.machine.specs.Search.{Searching, searching, turning, closing, calm, watched, met, visited, step, onwards, run, searched_from}
use Rattle.machine.specs.Sound.{Fit, Sound}
use Rattle.machine.proofs.Counting.{pops_recorded}
use Rattle.machine.proofs.Fitting.{recorded_found, recorded_new, recorded_taken}
use Rattle.machine.proofs.Kept.{Origins, origins_on, sound_made, origin_of, own_steps, popped_queued}
use Rattle.machine.proofs.Turning.{next_sound, next_below, sound_step, sound_run}
use Rattle.machine.proofs.Begun.{outset_is, none_queued, seed_origins, seed_steps, sound_begun, sound_seeded}

-- ---- how many places are queued

abbrev pub waiting : ℕ → State → ℕ
waiting n s = tally n (is_queued n s.work)

-- the counted steps and what is queued are fewer than what is taken: the seed is neither
pub record Ahead (n : ℕ) (s : State) : Type 0 where
  pub ahead : s.counts.pops + waiting n s + 1 ≤ s.counts.taken

module _ (n : ℕ) (w : Work) (i : ℕ) (few : n ≤ none) (inside : i < n) where
  one_more : is_queued n w i ≡ false → tally n (is_queued n (put_queued n w i true)) ≡ tally n (is_queued n w) + 1
  one_more e =
      tally_more n (is_queued n w) (is_queued n (put_queued n w i true)) i inside e (put_queued_here n w i true few inside)
      (put_queued_other n w i true few)

  one_less : is_queued n w i ≡ true → tally n (is_queued n w) ≡ tally n (is_queued n (put_queued n w i false)) + 1
  one_less e =
      tally_less n (is_queued n w) (is_queued n (put_queued n w i false)) i inside e (put_queued_here n w i false few inside)
      (put_queued_other n w i false few)

-- ---- a node takes a place

queue_recorded : (s : State) (node : Node) → (recorded s node).work.queue ≡ s.work.queue
unfolding recorded
queue_recorded s node = go (ltb (record_for s.work.floats s.counts.records node.root) s.counts.records)
  where
    go : (b : Bool) → (cond b (recorded_found s node) (recorded_new s node)).work.queue ≡ s.work.queue
    go true = refl
    go false = refl

module _ (t : Task) (s : State) (h : Fit t s) (space : s.counts.taken < t.places) (o : Origin) (kind : ℕ) (node : Node) (value : Float) where
  abbrev n : ℕ
  n = t.places

  abbrev i : ℕ
  i = s.counts.taken

  abbrev put_down : State
  put_down = placed s o kind node value

  abbrev on_record : State
  on_record = recorded put_down node

  not_yet : is_queued n s.work i ≡ false
  not_yet = go (is_queued n s.work i) refl
    where
      go : (b : Bool) → is_queued n s.work i ≡ b → b ≡ false
      go true e = absurd (omega (arith, h.queue.below i space e))
      go false e = refl

  queue_as : on_record.work.queue ≡ s.work.queue
  unfolding placed
  queue_as = queue_recorded put_down node

  taken_as : on_record.counts.taken ≡ i + 1
  unfolding placed took_place
  taken_as = recorded_taken put_down node

  pops_as : on_record.counts.pops ≡ s.counts.pops
  unfolding placed took_place
  pops_as = pops_recorded put_down node

  one_queued : tally n (is_queued n (put_queued n on_record.work i true)) ≡ waiting n s + 1
  one_queued =
      one_more n on_record.work i (omega (arith, h.room.few)) space (ap (λ (q : List ℕ). queued_in n q i) queue_as ∙ not_yet)
      ∙ ap (λ (q : List ℕ). tally n (queued_in n q) + 1) queue_as

  ahead_taken : Ahead n s → Ahead n (taken n s o kind node value)
  unfolding taken kept queued
  ahead_taken a = go (is_beaten put_down node)
    where
      dropped : Ahead n put_down
      dropped = unfold placed took_place in record { ahead = omega (arith, a.ahead) }

      go : (b : Bool) → Ahead n (cond b put_down (state_of (put_queued n on_record.work i true) on_record.counts))
      go true = dropped
      go false = record { ahead = omega (arith, a.ahead, one_queued, taken_as, pops_as) }

module _ (plan vs ps : List ℕ) (t : Task) (seed : Node) (g : Ground plan vs ps) where
  abbrev f : Floor
  f = floor_in plan vs ps

  ahead_made : (s : State) (o : Origin) (step : Step) → Fit t s → Ahead t.places s → Ahead t.places (made f.vertices t s o step).state
  unfolding made
  ahead_made s o step h a =
      go (is_nan node.length || is_nan (heuristic_of node.root t.trip.goal node.interval)) (leb t.places s.counts.taken) refl
    where
      node : Node
      node = enter f.vertices o.node step

      value : Float
      value = add binary32 node.length (heuristic_of node.root t.trip.goal node.interval)

      go : (b c : Bool) → leb t.places s.counts.taken ≡ c → Ahead t.places
          (cond b (making s false) (cond c (making s true) (making (taken t.places s o (kind_number step.kind) node value) false))).state
      go true c e = a
      go false true e = a
      go false false e = ahead_taken t s h (leb-false t.places s.counts.taken e) o (kind_number step.kind) node value a

  ahead_made_all : (steps : List Step) (s : State) (o : Origin) → Sound plan vs ps t seed s → Origins plan vs ps t seed s o
      → ((step : Step) → step ∈ steps → step ∈ steps_from f t.trip.to o.node) → Ahead t.places s
      → Ahead t.places (made_all f t s o steps).state
  unfolding made_all
  ahead_made_all [] s o h from permitted a = a
  ahead_made_all (step ∷ steps) s o h from permitted a =
      let m = sound_made plan vs ps t seed g s o step h from (permitted step (Memᴰ.head refl)) in
      let on = origins_on plan vs ps t seed g s next o m.grows from in
      let next_ahead = ahead_made s o step h.fit a in
      go made'.full next_ahead (ahead_made_all steps next o m.sound on (λ x e. permitted x (Memᴰ.tail e)) next_ahead)
    where
      made' : Making
      made' = made f.vertices t s o step

      next : State
      next = made'.state

      rest : Making
      rest = made_all f t next o steps

      go : (b : Bool) → Ahead t.places next → Ahead t.places rest.state → Ahead t.places (cond b made' rest).state
      go true m r = m
      go false m r = r

  -- ---- a place is popped

  ahead_popped : (s : State) → Sound plan vs ps t seed s → eqb (least_in t.places s.work) none ≡ false → Ahead t.places s
      → Ahead t.places (popped f t s (least_in t.places s.work))
  unfolding popped counted
  ahead_popped s h e a =
      let q = popped_queued plan vs ps t seed g s h e in
      let less = one_less t.places s.work (least_in t.places s.work) (omega (arith, h.fit.room.few)) q.0 q.1 in
      record { ahead = omega (arith, a.ahead, less) }

  ahead_pursued : (s : State) (i : ℕ) → Sound plan vs ps t seed s → i < s.counts.taken → Ahead t.places s → Ahead t.places (pursued f t s i).state
  unfolding pursued
  ahead_pursued s i h l a = go (is_in_goal t.trip.to (node_at s.work i)) m.full
    where
      m : Making
      m = made_all f t s (origin_at s.work i) (steps_from f t.trip.to (node_at s.work i))

      made_ahead : Ahead t.places m.state
      made_ahead =
          ahead_made_all (steps_from f t.trip.to (node_at s.work i)) s (origin_at s.work i) h (origin_of plan vs ps t seed g s i l)
          (own_steps plan vs ps t seed g s i) a

      go : (b c : Bool)
          → Ahead t.places (cond b (stepping s (Some (Arrived i))) (cond c (stepping m.state (Some Filled)) (stepping m.state None))).state
      go true c = a
      go false true = made_ahead
      go false false = made_ahead

  -- ---- a step, and a run

  ahead_met : (x : Searching) (i : ℕ) (e : Entry) (table : List ℕ) → Sound plan vs ps t seed x.state → i < x.state.counts.taken
      → Ahead t.places x.state → Ahead t.places (met f t x i e table).search.state
  ahead_met x i New table h l a = ahead_pursued x.state i h l a
  ahead_met x i Seen table h l a = a
  ahead_met x i NoRoom table h l a = a

  ahead_visited : (x : Searching) (i : ℕ) → Sound plan vs ps t seed x.state → i < x.state.counts.taken → Ahead t.places x.state
      → Ahead t.places (visited f t x i).search.state
  unfolding visited
  ahead_visited x i h l a = go (is_beaten x.state (node_at x.state.work i))
    where
      r : Remembered
      r = remembered x.stall.recording x.table (key_of (node_at x.state.work i))

      go : (b : Bool) → Ahead t.places (cond b (turning x None) (met f t x i r.entry r.table)).search.state
      go true = a
      go false = ahead_met x i r.entry r.table h l a

  module _ (x : Searching) (h : Sound plan vs ps t seed x.state) (a : Ahead t.places x.state) where
    abbrev least : ℕ
    least = least_in t.places x.state.work

    abbrev next : Searching
    next = watched x (popped f t x.state least) (f_at x.state.work least)

    pub next_ahead : eqb least none ≡ false → Ahead t.places next.state
    unfolding watched
    next_ahead e = ahead_popped x.state h e a

    pub ahead_step : Ahead t.places (step f t x).search.state
    unfolding step
    ahead_step = go (eqb least none) refl
      where
        go : (b : Bool) → eqb least none ≡ b → Ahead t.places (cond b (turning x (Some Emptied)) (visited f t next least)).search.state
        go true e = a
        go false e = ahead_visited next least (next_sound plan vs ps t seed g x h e) (next_below plan vs ps t seed g x h e) (next_ahead e)

  ahead_run : (budget : ℕ) (x : Searching) → Sound plan vs ps t seed x.state → Ahead t.places x.state
      → Ahead t.places (run f t budget x).search.state
  unfolding run
  ahead_run zero x h a = go (eqb (least_in t.places x.state.work) none)
    where
      go : (b : Bool) → Ahead t.places (cond b (closing x Emptied) (closing x Stopped)).search.state
      go true = a
      go false = a
  ahead_run (suc budget) x h a =
      go (step f t x).outcome (sound_step plan vs ps t seed g x h).sound (ahead_step x h a) (ahead_run budget)
    where
      after : Searching
      after = (step f t x).search

      go : (o : Option Finish) → Sound plan vs ps t seed after.state → Ahead t.places after.state
          → ((u : Searching) → Sound plan vs ps t seed u.state → Ahead t.places u.state → Ahead t.places (run f t budget u).search.state)
          → Ahead t.places (onwards f t after o (run f t budget)).search.state
      go None h a rest = rest after h a
      go (Some finish) h a rest = a

-- ---- a search

module _ (plan vs ps : List ℕ) (t : Task) (g : Ground plan vs ps) (listed : t.trip.from < polygon_count_in plan) (w : Work) (room : Room t.places w)
    (places : 1 ≤ t.places) where
  abbrev floor : Floor
  floor = floor_in plan vs ps

  abbrev first : Node
  first = seed_node t.trip.start t.trip.from

  ahead_begun : Ahead t.places (begun floor t first w)
  unfolding begun
  ahead_begun = record {
    ahead = omega (arith, tally_none t.places (is_queued t.places (begun floor t first w).work) (none_queued plan vs ps t g listed w room places));
  }

  pub ahead_outset : Ahead t.places (outset floor t w).state
  ahead_outset =
      rw (outset_is plan vs ps t g listed w room places)
      (ahead_made_all plan vs ps t first g (steps_from floor t.trip.to first) (begun floor t first w) (seed_origin floor t first)
      (sound_begun plan vs ps t g listed w room places) (seed_origins plan vs ps t g listed w room places)
      (seed_steps plan vs ps t g listed w room places) ahead_begun)

  -- the counted steps are fewer than the places
  pub steps_below_places : (budget : ℕ) (table : List ℕ) → (searched_from floor t budget w table).search.state.counts.pops < t.places
  unfolding searched_from
  steps_below_places budget table = go (outset floor t w).full
    where
      x : Searching
      x = searching (outset floor t w).state calm table

      seeded : Sound plan vs ps t first x.state
      seeded = sound_seeded plan vs ps t g listed w room places

      go : (b : Bool) → (cond b (closing x Filled) (run floor t budget x)).search.state.counts.pops < t.places
      go true = omega (arith, ahead_outset.ahead, seeded.taken_in)
      go false =
          omega (
            arith,
            (ahead_run plan vs ps t first g budget x seeded ahead_outset).ahead,
            (sound_run plan vs ps t first g budget x seeded).sound.taken_in,
          )
