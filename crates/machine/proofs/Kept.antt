-- What holds of every state of a search is kept by each thing that it does. Rests on specs/Sound. Assumes nothing.
use Prim.Native.Nat.{ℕ, zero, suc, ◌+◌, ◌*◌, ◌≤◌, ◌<◌}
use native.Mathlib.Omega.{arith}
use mathlib.Core.Path.{◌≡◌, refl, sym, ap, ◌∙◌, subst}
use mathlib.Core.Bool.{Bool, true, false, not, cond, ◌||◌}
use mathlib.Core.List.Memᴰ
use mathlib.Core.List.{List, [], ◌∷◌}
use mathlib.Core.Logic.{◌⊎◌, inl, inr, ⊎_elim}
use borrow.Author.Tests.{eqb-false, leb-false}
use lib.Dec.{T, eqb, leb, ltb}
use lib.Ieee.{Float, binary32, add, is_nan}
use lib.ListN.{length}
use Rattle.std.specs.Prelude.{Option, Some, None}
use Rattle.machine.specs.declared.Finish.{Finish}
use Rattle.point.specs.Point.{same_of}
use Rattle.helpers.specs.Helpers.{heuristic_of}
use Rattle.cut.specs.declared.SuccessorType.{SuccessorType}
use Rattle.cut.specs.declared.SuccessorType.TheVariants.{LeftNonObservable, Observable, RightNonObservable}
use Rattle.stored.specs.Stored.{Floor, floor_in}
use Rattle.edges.specs.Ground.{Ground}
use Rattle.route.specs.declared.Step.{Step}
use Rattle.route.specs.Step.{kind_number}
use Rattle.route.specs.World.{◌∈◌}
use Rattle.steps.specs.declared.Node.{Node}
use Rattle.steps.specs.Steps.{steps_from, enter, root_after}
use Rattle.going.specs.Going.{Stands}
use Rattle.steps.specs.World.{is_in_goal}
use Rattle.going.proofs.Stands.{enter_stands}
use Rattle.queue.specs.Queue.{none, put}
use Rattle.queue.proofs.Scan.{least_held}
use Rattle.queue.proofs.Queued.{put_other}
use Rattle.machine.specs.declared.Task.{Task}
use Rattle.machine.specs.declared.Counts.{Counts}
use Rattle.machine.specs.declared.Origin.{Origin}
use Rattle.machine.specs.declared.Finish.TheVariants.{Arrived, Emptied, Filled, Stopped, Crowded}
use Rattle.places.specs.Layout.{floats_per_place, words_per_place, polygon_cell, seed_kind, Work, work_of, word_at, node_in, node_at, step_at, parent_at, depth_at}
use Rattle.places.specs.Layout.{number_at}
use Rattle.places.specs.Layout.{f_at, is_queued, put_node, record_for, record_put, distance_put, put_queued, least_in}
use Rattle.machine.specs.Search.{State, state_of, took_place, took_record, counted}
use Rattle.machine.specs.Search as search
use Rattle.machine.specs.Sound.{is_plus, Entered, Held, Sound, OnRecord, Numbered}
use Rattle.places.proofs.Rows.{SameFloats, SameWords, which, node_same, step_same, f_same, parent_same, depth_same, number_same, floats_elsewhere}
use Rattle.places.proofs.Rows.{words_elsewhere, f_put, node_put, step_put, parent_put, depth_put, number_put, record_length, record_beside, distance_length}
use Rattle.places.proofs.Rows.{distance_beside}
use Rattle.places.proofs.Queued.{put_queued_lem}
use Rattle.machine.proofs.Fitting.{recorded_found, recorded_new, recorded_taken, fit_beside, fit_placed, fit_queued}
use Rattle.machine.proofs.Numbers.{made_self, on_taken, own_taken}
use Rattle.machine.proofs.Plus.{add_plus, add_no_nan, distance_plus, heuristic_plus, plus_if}

module _ (plan vs ps : List ℕ) (t : Task) (seed : Node) where
  abbrev f : Floor
  f = floor_in plan vs ps

  abbrev n : ℕ
  n = t.places

  -- ---- places whose rows are the same

  -- the rows of the places below some number are in both buffers alike
  module _ (new old : Work) (low : ℕ) (fs : (i : ℕ) → i < low → SameFloats new.floats old.floats i)
      (ws : (i : ℕ) → i < low → SameWords new.words old.words i)
      (lefts : (i : ℕ) → i < low → word_at new.words (parent_at old i) polygon_cell ≡ word_at old.words (parent_at old i) polygon_cell) where
    node_kept : (i : ℕ) → i < low → node_at new i ≡ node_at old i
    node_kept i l = node_same new.floats old.floats i (fs i l) new.words old.words (ws i l) (lefts i l)

    step_kept : (i : ℕ) → i < low → step_at new i ≡ step_at old i
    step_kept i l = step_same new.floats old.floats i (fs i l) new.words old.words (ws i l)

    parent_kept : (i : ℕ) → i < low → parent_at new i ≡ parent_at old i
    parent_kept i l = parent_same new.words old.words i (ws i l)

    depth_kept : (i : ℕ) → i < low → depth_at new i ≡ depth_at old i
    depth_kept i l = depth_same new.words old.words i (ws i l)

    number_kept : (i : ℕ) → i < low → number_at new i ≡ number_at old i
    number_kept i l = number_same new.words old.words i (ws i l)

    held_kept : (i : ℕ) → i < low → Held plan vs ps old i → Held plan vs ps new i
    held_kept i l h =
        let e = node_kept i l in
        let d = depth_kept i l in
        record {
          stands = subst (Stands plan vs ps) (sym e) h.stands;
          plus = subst (λ (m : Node). T (is_plus m.length)) (sym e) h.plus;
          points_few = rw (e, d) h.points_few;
          depth_few = rw d h.depth_few;
        }

    entered_kept : (i : ℕ) → i < low → Entered f t old i → Entered f t new i
    entered_kept i l h =
        let below : parent_at old i < low = omega (arith, h.lower) in
        record {
          lower = rw (parent_kept i l) h.lower;
          permitted = rw (parent_kept i l, step_kept i l, node_kept (parent_at old i) below) h.permitted;
          entered = rw (parent_kept i l, step_kept i l, node_kept i l, node_kept (parent_at old i) below) h.entered;
          deeper = rw (parent_kept i l, depth_kept i l, depth_kept (parent_at old i) below) h.deeper;
        }

  -- ---- distance records

  -- the floats of the nodes are as they were, the counters agree: nothing else changed
  sound_beside : (s : State) (floats : List Float) (c : Counts) → Sound plan vs ps t seed s → ((i : ℕ) → SameFloats floats s.work.floats i)
      → length floats ≡ length s.work.floats
      → c.taken ≡ s.counts.taken → c.records ≤ c.taken → Sound plan vs ps t seed (state_of (work_of floats s.work.words s.work.queue) c)
  sound_beside s floats c h same long taken few =
      let new = work_of floats s.work.words s.work.queue in
      let held = held_kept new s.work s.counts.taken (λ i l. same i) (λ i l k b. refl) (λ i l. refl) in
      let entered = entered_kept new s.work s.counts.taken (λ i l. same i) (λ i l k b. refl) (λ i l. refl) in
      let node = node_kept new s.work s.counts.taken (λ i l. same i) (λ i l k b. refl) (λ i l. refl) in
      record {
        fit = fit_beside t s floats c h.fit same long taken few;
        some = rw taken h.some;
        taken_in = rw taken h.taken_in;
        first_is_seed = node 0 h.some ∙ h.first_is_seed;
        seed_parent = h.seed_parent;
        seed_depth = h.seed_depth;
        held = λ i l. held i (rw taken at l) (h.held i (rw taken at l));
        entered = λ i z l. entered i (rw taken at l) (h.entered i z (rw taken at l));
        no_nan = λ i l q. rw (f_same floats s.work.floats i (same i)) (h.no_nan i l q);
        no_minus = λ i l q. rw (f_same floats s.work.floats i (same i)) (h.no_minus i l q);
      }

  pub sound_recorded : (s : State) (node : Node) → Sound plan vs ps t seed s → s.counts.records < s.counts.taken
      → Sound plan vs ps t seed (search.recorded s node)
  unfolding search.recorded took_record
  sound_recorded s node h room = go (ltb (record_for s.work.floats s.counts.records node.root) s.counts.records)
    where
      r : ℕ
      r = record_for s.work.floats s.counts.records node.root

      go : (b : Bool) → Sound plan vs ps t seed (cond b (recorded_found s node) (recorded_new s node))
      go true =
          sound_beside s (distance_put s.work.floats r node.length) s.counts h (distance_beside s.work.floats r node.length)
          (distance_length s.work.floats r node.length) refl h.fit.records_in
      go false =
          sound_beside s (record_put s.work.floats r node.root node.length) (took_record s.counts) h
          (record_beside s.work.floats r node.root node.length) (record_length s.work.floats r node.root node.length) refl
          (omega (arith, room))

  -- ---- the queue

  pub sound_queued : (s : State) (c : Counts) (i : ℕ) (b : Bool) → Sound plan vs ps t seed s → c.taken ≡ s.counts.taken
      → c.records ≡ s.counts.records
      → i < s.counts.taken → T (not (is_nan (f_at s.work i))) → T (is_plus (f_at s.work i))
      → Sound plan vs ps t seed (state_of (put_queued n s.work i b) c)
  sound_queued s c i b h taken records low number plus = record {
    fit = fit_queued t s c i b h.fit taken records low;
    some = rw taken h.some;
    taken_in = rw taken h.taken_in;
    first_is_seed = h.first_is_seed;
    seed_parent = h.seed_parent;
    seed_depth = h.seed_depth;
    held = λ j l. held_kept (put_queued n s.work i b) s.work s.counts.taken (λ i l k b. refl) (λ i l k b. refl) (λ i l. refl) j (rw taken at l)
        (h.held j (rw taken at l));
    entered = λ j z l. entered_kept (put_queued n s.work i b) s.work s.counts.taken (λ i l k b. refl) (λ i l k b. refl) (λ i l. refl) j
        (rw taken at l) (h.entered j z (rw taken at l));
    no_nan = λ j l q. queued_has (λ v. T (not (is_nan v))) number h.no_nan j l (which i j) (sym (put_queued_lem n s.work i b few j l) ∙ q);
    no_minus = λ j l q. queued_has (λ v. T (is_plus v)) plus h.no_minus j l (which i j) (sym (put_queued_lem n s.work i b few j l) ∙ q);
  }
    where
      few : n ≤ none
      few = omega (arith, h.fit.room.few)

      -- what i has, and each place that was queued, has each that is
      queued_has : (P : Float → Type 0) → P (f_at s.work i) → ((j : ℕ) → j < n → is_queued n s.work j ≡ true → P (f_at s.work j))
          → (j : ℕ) → j < n → (j < i) ⊎ ((j ≡ i) ⊎ (i < j)) → put (is_queued n s.work) i b j ≡ true → P (f_at s.work j)
      queued_has P own had j l (inl d) q = had j l (sym (put_other (is_queued n s.work) i b j (λ e. omega arith)) ∙ q)
      queued_has P own had j l (inr (inl e)) q = subst (λ (m : ℕ). P (f_at s.work m)) (sym e) own
      queued_has P own had j l (inr (inr d)) q = had j l (sym (put_other (is_queued n s.work) i b j (λ e. omega arith)) ∙ q)

  -- ---- what stays when more is put

  -- the places that were taken hold what they held
  pub record Grows (s after : State) : Type 0 where
    pub more : s.counts.taken ≤ after.counts.taken
    pub node_as : (i : ℕ) → i < s.counts.taken → node_at after.work i ≡ node_at s.work i
    pub depth_as : (i : ℕ) → i < s.counts.taken → depth_at after.work i ≡ depth_at s.work i
    pub number_as : (i : ℕ) → i < s.counts.taken → number_at after.work i ≡ number_at s.work i

  grows_self : (s : State) → Grows s s
  grows_self s = record { more = omega arith; node_as = λ i l. refl; depth_as = λ i l. refl; number_as = λ i l. refl }

  grows_on : (a b c : State) → Grows a b → Grows b c → Grows a c
  grows_on a b c g h = record {
    more = omega (arith, g.more, h.more);
    node_as = λ i l. h.node_as i (omega (arith, l, g.more)) ∙ g.node_as i l;
    depth_as = λ i l. h.depth_as i (omega (arith, l, g.more)) ∙ g.depth_as i l;
    number_as = λ i l. h.number_as i (omega (arith, l, g.more)) ∙ g.number_as i l;
  }

  module _ (s : State) (node : Node) where
    abbrev r : ℕ
    r = record_for s.work.floats s.counts.records node.root

    recorded_floats : (i : ℕ) → SameFloats (search.recorded s node).work.floats s.work.floats i
    unfolding search.recorded
    recorded_floats i = go (ltb r s.counts.records)
      where
        go : (b : Bool) → SameFloats (cond b (recorded_found s node) (recorded_new s node)).work.floats s.work.floats i
        go true = distance_beside s.work.floats r node.length i
        go false = record_beside s.work.floats r node.root node.length i

    recorded_words : (search.recorded s node).work.words ≡ s.work.words
    unfolding search.recorded
    recorded_words = go (ltb r s.counts.records)
      where
        go : (b : Bool) → (cond b (recorded_found s node) (recorded_new s node)).work.words ≡ s.work.words
        go true = refl
        go false = refl

    same_words : (i : ℕ) → SameWords (search.recorded s node).work.words s.work.words i
    same_words i k b = ap (λ (ws : List ℕ). word_at ws i k) recorded_words

    same_lefts : (i : ℕ) → i < s.counts.taken
        → word_at (search.recorded s node).work.words (parent_at s.work i) polygon_cell ≡ word_at s.work.words (parent_at s.work i) polygon_cell
    same_lefts i l = same_words (parent_at s.work i) polygon_cell (omega arith)

    grows_recorded : Grows s (search.recorded s node)
    grows_recorded = record {
      more = rw (recorded_taken s node) (omega arith);
      node_as = node_kept (search.recorded s node).work s.work s.counts.taken (λ i l. recorded_floats i) (λ i l. same_words i) same_lefts;
      depth_as = depth_kept (search.recorded s node).work s.work s.counts.taken (λ i l. recorded_floats i) (λ i l. same_words i) same_lefts;
      number_as = number_kept (search.recorded s node).work s.work s.counts.taken (λ i l. recorded_floats i) (λ i l. same_words i) same_lefts;
    }

  -- ---- a node takes the next place

  -- what the origin of a step is: a place that holds it
  pub record Origins (s : State) (o : Origin) : Type 0 where
    pub place_in : o.place < s.counts.taken
    pub node_is : o.node ≡ node_at s.work o.place
    pub depth_is : o.depth ≡ depth_at s.work o.place

  module _ (g : Ground plan vs ps) where
    module _ (s : State) (o : Origin) (step : Step) (value : Float) (h : Sound plan vs ps t seed s) (from : Origins s o)
        (permitted : step ∈ steps_from f t.trip.to o.node) (space : s.counts.taken < n) where
      abbrev node : Node
      node = enter f.vertices o.node step

      abbrev kind : ℕ
      kind = kind_number step.kind

      abbrev i : ℕ
      i = s.counts.taken

      abbrev number : ℕ
      number = record_for s.work.floats s.counts.records node.root

      abbrev new : Work
      new = put_node s.work i kind node value o.place (o.depth + 1) number

      origin_held : Held plan vs ps s.work o.place
      origin_held = h.held o.place from.place_in

      node_stands : Stands plan vs ps node
      node_stands = enter_stands plan vs ps g t.trip.to o.node (subst (Stands plan vs ps) (sym from.node_is) origin_held.stands) step permitted

      origin_plus : T (is_plus o.node.length)
      origin_plus = subst (λ (m : Node). T (is_plus m.length)) (sym from.node_is) origin_held.plus

      pub node_plus : T (is_plus node.length)
      unfolding enter
      node_plus =
          plus_if (same_of (root_after f.vertices o.node step.kind) o.node.root) _ _ origin_plus
          (add_plus binary32 _ _ origin_plus (distance_plus _ _))

      node_points : node.points ≤ o.node.points + 1
      unfolding enter
      node_points = go (same_of (root_after f.vertices o.node step.kind) o.node.root)
        where
          go : (b : Bool) → cond b o.node.points (o.node.points + 1) ≤ o.node.points + 1
          go true = omega arith
          go false = omega arith

      origin_points : o.node.points ≤ o.depth
      origin_points =
          subst (λ (m : Node). m.points ≤ o.depth) (sym from.node_is)
          (subst (λ (d : ℕ). (node_at s.work o.place).points ≤ d) (sym from.depth_is) origin_held.points_few)

      origin_depth : o.depth ≤ o.place
      origin_depth = subst (λ (d : ℕ). d ≤ o.place) (sym from.depth_is) origin_held.depth_few

      floats_room : (i + 1) * floats_per_place ≤ length s.work.floats
      floats_room = omega (arith, h.fit.room.floats_room, space)

      words_room : (i + 1) * words_per_place ≤ length s.work.words
      words_room = omega (arith, h.fit.room.words_room, space)

      seed_kind_lem : eqb kind seed_kind ≡ node.seed
      unfolding enter kind_number
      seed_kind_lem = go step.kind
        where
          go : (k : SuccessorType) → eqb (kind_number k) seed_kind ≡ false
          go Observable = refl
          go RightNonObservable = refl
          go LeftNonObservable = refl

      -- the polygon that it left is its parent's
      its_left : word_at new.words o.place polygon_cell ≡ node.left
      unfolding enter node_in
      its_left =
          words_elsewhere s.work.words i kind node o.place (o.depth + 1) number o.place polygon_cell (omega arith)
          (λ e. omega (arith, e, from.place_in))
          ∙ sym (ap (λ (m : Node). m.polygon) from.node_is)

      pub its_node : node_at new i ≡ node
      its_node = node_put s.work.words i kind node o.place (o.depth + 1) number words_room s.work.floats value floats_room seed_kind_lem its_left

      its_step : step_at new i ≡ step
      unfolding enter
      its_step =
          step_put s.work.words i kind node o.place (o.depth + 1) number words_room s.work.floats value floats_room step refl refl refl refl refl

      its_parent : parent_at new i ≡ o.place
      its_parent = parent_put s.work.words i kind node o.place (o.depth + 1) number words_room

      its_depth : depth_at new i ≡ o.depth + 1
      its_depth = depth_put s.work.words i kind node o.place (o.depth + 1) number words_room

      pub its_f : f_at new i ≡ value
      its_f = f_put s.work.floats i node value floats_room

      floats_below : (j : ℕ) → j < i → SameFloats new.floats s.work.floats j
      floats_below j l k b = floats_elsewhere s.work.floats i node value j k (omega arith) (inl (λ e. omega arith))

      words_below : (j : ℕ) → j < i → SameWords new.words s.work.words j
      words_below j l k b = words_elsewhere s.work.words i kind node o.place (o.depth + 1) number j k b (λ e. omega arith)

      -- every parent is a place that was taken before
      parent_low : (j : ℕ) → j < i → parent_at s.work j < i
      parent_low zero l = omega (arith, h.seed_parent, h.some)
      parent_low (suc j) l = omega (arith, (h.entered (suc j) (omega arith) l).lower, l)

      lefts_below : (j : ℕ) → j < i → word_at new.words (parent_at s.work j) polygon_cell
          ≡ word_at s.work.words (parent_at s.work j) polygon_cell
      lefts_below j l = words_below (parent_at s.work j) (parent_low j l) polygon_cell (omega arith)

      pub node_below : (j : ℕ) → j < i → node_at new j ≡ node_at s.work j
      node_below = node_kept new s.work i floats_below words_below lefts_below

      pub depth_below : (j : ℕ) → j < i → depth_at new j ≡ depth_at s.work j
      depth_below = depth_kept new s.work i floats_below words_below lefts_below

      number_below : (j : ℕ) → j < i → number_at new j ≡ number_at s.work j
      number_below = number_kept new s.work i floats_below words_below lefts_below

      its_number : number_at new i ≡ number
      its_number = number_put s.work.words i kind node o.place (o.depth + 1) number words_room

      new_held : Held plan vs ps new i
      new_held = record {
        stands = subst (Stands plan vs ps) (sym its_node) node_stands;
        plus = subst (λ (m : Node). T (is_plus m.length)) (sym its_node) node_plus;
        points_few = rw (its_node, its_depth) (omega (arith, node_points, origin_points));
        depth_few = rw its_depth (omega (arith, origin_depth, from.place_in));
      }

      new_entered : Entered f t new i
      new_entered = record {
        lower = rw its_parent from.place_in;
        permitted = rw (its_parent, its_step, node_below o.place from.place_in, ← from.node_is) permitted;
        entered = rw (its_parent, its_step, its_node, node_below o.place from.place_in, ← from.node_is) refl;
        deeper = rw (its_parent, its_depth, depth_below o.place from.place_in, ← from.depth_is) refl;
      }

      f_below : (j : ℕ) → j < i → f_at new j ≡ f_at s.work j
      f_below j l = f_same new.floats s.work.floats j (floats_below j l)

      pub sound_placed : Sound plan vs ps t seed (search.placed s o kind node value)
      unfolding search.placed took_place
      sound_placed = record {
        fit = fit_placed t s o kind node value h.fit;
        some = omega arith;
        taken_in = omega (arith, space);
        first_is_seed = node_below 0 h.some ∙ h.first_is_seed;
        seed_parent = parent_same new.words s.work.words 0 (words_below 0 h.some) ∙ h.seed_parent;
        seed_depth = depth_below 0 h.some ∙ h.seed_depth;
        held = λ j l. held_at j l (which i j);
        entered = λ j z l. entered_at j z l (which i j);
        no_nan = λ j l q. rw (f_below j (h.fit.queue.below j l q)) (h.no_nan j l q);
        no_minus = λ j l q. rw (f_below j (h.fit.queue.below j l q)) (h.no_minus j l q);
      }
        where
          held_at : (j : ℕ) → j < i + 1 → (j < i) ⊎ ((j ≡ i) ⊎ (i < j)) → Held plan vs ps new j
          held_at j l (inl d) = held_kept new s.work i floats_below words_below lefts_below j d (h.held j d)
          held_at j l (inr (inl e)) = subst (Held plan vs ps new) (sym e) new_held
          held_at j l (inr (inr d)) = absurd (omega (arith, l, d))

          entered_at : (j : ℕ) → 0 < j → j < i + 1 → (j < i) ⊎ ((j ≡ i) ⊎ (i < j)) → Entered f t new j
          entered_at j z l (inl d) = entered_kept new s.work i floats_below words_below lefts_below j d (h.entered j z d)
          entered_at j z l (inr (inl e)) = subst (Entered f t new) (sym e) new_entered
          entered_at j z l (inr (inr d)) = absurd (omega (arith, l, d))

      -- ---- it is kept, or dropped

      abbrev put_down : State
      put_down = search.placed s o kind node value

      abbrev recorded_down : State
      recorded_down = search.recorded put_down node

      records_left : put_down.counts.records < put_down.counts.taken
      unfolding search.placed took_place
      records_left = omega (arith, h.fit.records_in)

      taken_down : put_down.counts.taken ≡ i + 1
      unfolding search.placed took_place
      taken_down = refl

      f_down : f_at recorded_down.work i ≡ value
      unfolding search.placed
      f_down = f_same recorded_down.work.floats put_down.work.floats i (recorded_floats put_down node i) ∙ its_f

      pub sound_taken : T (not (is_nan value)) → T (is_plus value) → Sound plan vs ps t seed (search.taken n s o kind node value)
      unfolding search.taken search.kept search.queued
      sound_taken number plus = go (search.is_beaten put_down node)
        where
          go : (b : Bool) → Sound plan vs ps t seed (cond b put_down (state_of (put_queued n recorded_down.work i true) recorded_down.counts))
          go true = sound_placed
          go false =
              sound_queued recorded_down recorded_down.counts i true (sound_recorded put_down node sound_placed records_left) refl refl
              (rw (recorded_taken put_down node, taken_down) (omega arith)) (rw f_down number) (rw f_down plus)

      grows_placed : Grows s put_down
      unfolding search.placed took_place
      grows_placed = record { more = omega arith; node_as = node_below; depth_as = depth_below; number_as = number_below }

      pub grows_taken : Grows s (search.taken n s o kind node value)
      unfolding search.taken search.kept search.queued
      grows_taken = go (search.is_beaten put_down node)
        where
          go : (b : Bool) → Grows s (cond b put_down (state_of (put_queued n recorded_down.work i true) recorded_down.counts))
          go true = grows_placed
          go false =
              grows_on s recorded_down (state_of (put_queued n recorded_down.work i true) recorded_down.counts)
              (grows_on s put_down recorded_down grows_placed (grows_recorded put_down node))
              (record { more = omega arith; node_as = λ j l. refl; depth_as = λ j l. refl; number_as = λ j l. refl })

      -- ---- it keeps the number of its root's record

      node_taken : node_at (search.taken n s o kind node value).work i ≡ node
      unfolding search.taken search.kept search.queued search.placed took_place
      node_taken = go (search.is_beaten put_down node)
        where
          go : (b : Bool) → node_at (cond b put_down (state_of (put_queued n recorded_down.work i true) recorded_down.counts)).work i ≡ node
          go true = its_node
          go false = (grows_recorded put_down node).node_as i (omega arith) ∙ its_node

      number_taken : number_at (search.taken n s o kind node value).work i ≡ number
      unfolding search.taken search.kept search.queued search.placed took_place
      number_taken = go (search.is_beaten put_down node)
        where
          go : (b : Bool) → number_at (cond b put_down (state_of (put_queued n recorded_down.work i true) recorded_down.counts)).work i ≡ number
          go true = its_number
          go false = (grows_recorded put_down node).number_as i (omega arith) ∙ its_number

      taken_one : (search.taken n s o kind node value).counts.taken ≡ i + 1
      unfolding search.taken search.kept search.queued
      taken_one = go (search.is_beaten put_down node)
        where
          go : (b : Bool) → (cond b put_down (state_of (put_queued n recorded_down.work i true) recorded_down.counts)).counts.taken ≡ i + 1
          go true = taken_down
          go false = recorded_taken put_down node ∙ taken_down

      pub numbered_taken : same_of node.root node.root ≡ true → Numbered s → Numbered (search.taken n s o kind node value)
      numbered_taken self numbered j l = go (which i j)
        where
          after : State
          after = search.taken n s o kind node value

          own : OnRecord after (node_at after.work i).root (number_at after.work i)
          own = rw (node_taken, number_taken) (own_taken node self n s o kind value (omega (arith, h.fit.records_in, h.fit.room.floats_room, space)))

          go : (j < i) ⊎ ((j ≡ i) ⊎ (i < j)) → OnRecord after (node_at after.work j).root (number_at after.work j)
          go (inl d) =
              rw (grows_taken.node_as j d, grows_taken.number_as j d)
              (on_taken (node_at s.work j).root (number_at s.work j) n s o kind node value (numbered j d))
          go (inr (inl e)) = subst (λ (m : ℕ). OnRecord after (node_at after.work m).root (number_at after.work m)) (sym e) own
          go (inr (inr d)) = absurd (omega (arith, taken_one, l, d))

    -- ---- nodes are made

    made_plus : (s : State) (o : Origin) → Sound plan vs ps t seed s → Origins s o → T (is_plus o.node.length)
    made_plus s o h from = subst (λ (m : Node). T (is_plus m.length)) (sym from.node_is) (h.held o.place from.place_in).plus

    -- a state after a step was made, from one that was sound
    pub record Makes (s : State) (o : Origin) (after : State) : Type 0 where
      pub sound : Sound plan vs ps t seed after
      pub grows : Grows s after
      pub numbered : Numbered s → Numbered after

    pub origins_on : (s after : State) (o : Origin) → Grows s after → Origins s o → Origins after o
    origins_on s after o g from = record {
      place_in = omega (arith, g.more, from.place_in);
      node_is = from.node_is ∙ sym (g.node_as o.place from.place_in);
      depth_is = from.depth_is ∙ sym (g.depth_as o.place from.place_in);
    }

    pub sound_made : (s : State) (o : Origin) (step : Step) → Sound plan vs ps t seed s → Origins s o → step ∈ steps_from f t.trip.to o.node
        → Makes s o (search.made f.vertices t s o step).state
    unfolding search.made
    sound_made s o step h from permitted = go (is_nan node'.length) refl (is_nan heuristic') refl (leb n s.counts.taken) refl
      where
        node' : Node
        node' = enter f.vertices o.node step

        heuristic' : Float
        heuristic' = heuristic_of node'.root t.trip.goal node'.interval

        value' : Float
        value' = add binary32 node'.length heuristic'

        made' : search.Making
        made' = search.making (search.taken n s o (kind_number step.kind) node' value') false

        no : (b : Bool) → b ≡ false → T (not b)
        no b e = subst (λ (c : Bool). T (not c)) (sym e) tt

        go : (a : Bool) → is_nan node'.length ≡ a → (b : Bool) → is_nan heuristic' ≡ b → (c : Bool) → leb n s.counts.taken ≡ c
            → Makes s o (cond (a || b) (search.making s false) (cond c (search.making s true) made')).state
        go true x b y c z = record { sound = h; grows = grows_self s; numbered = λ m. m }
        go false x true y c z = record { sound = h; grows = grows_self s; numbered = λ m. m }
        go false x false y true z = record { sound = h; grows = grows_self s; numbered = λ m. m }
        go false x false y false z =
            let space = leb-false n s.counts.taken z in
            let plus = node_plus s o step value' h from permitted space in
            record {
              sound = sound_taken s o step value' h from permitted space (add_no_nan binary32 _ _ plus (heuristic_plus _ _ _) (no _ x) (no _ y))
                  (add_plus binary32 _ _ plus (heuristic_plus _ _ _));
              grows = grows_taken s o step value' h from permitted space;
              numbered = numbered_taken s o step value' h from permitted space (made_self f.vertices o.node step x);
            }

    pub sound_made_all : (steps : List Step) (s : State) (o : Origin) → Sound plan vs ps t seed s → Origins s o
        → ((step : Step) → step ∈ steps → step ∈ steps_from f t.trip.to o.node) → Makes s o (search.made_all f t s o steps).state
    unfolding search.made_all
    sound_made_all [] s o h from permitted = record { sound = h; grows = grows_self s; numbered = λ m. m }
    sound_made_all (step ∷ steps) s o h from permitted =
        let m = sound_made s o step h from (permitted step (Memᴰ.head refl)) in
        let on = origins_on s next o m.grows from in
        go made'.full m (sound_made_all steps next o m.sound on (λ x e. permitted x (Memᴰ.tail e)))
      where
        made' : search.Making
        made' = search.made f.vertices t s o step

        next : State
        next = made'.state

        rest : search.Making
        rest = search.made_all f t next o steps

        go : (b : Bool) → Makes s o next → Makes next o rest.state → Makes s o (cond b made' rest).state
        go true m r = m
        go false m r = record {
          sound = r.sound;
          grows = grows_on s next rest.state m.grows r.grows;
          numbered = λ x. r.numbered (m.numbered x);
        }

    -- ---- a step

    pub origin_of : (s : State) (i : ℕ) → i < s.counts.taken → Origins s (search.origin_at s.work i)
    unfolding search.origin_at
    origin_of s i l = record { place_in = l; node_is = refl; depth_is = refl }

    -- where a search arrived: a place that is taken, in the goal polygon
    abbrev pub Arrives : State → Option Finish → Type 0
    Arrives s (Some (Arrived i)) = (i < s.counts.taken) × (is_in_goal t.trip.to (node_at s.work i) ≡ true)
    Arrives s (Some Emptied) = Unit {0}
    Arrives s (Some Filled) = Unit {0}
    Arrives s (Some Stopped) = Unit {0}
    Arrives s (Some Crowded) = Unit {0}
    Arrives s None = Unit {0}

    pub record Steps (after : search.Stepping) : Type 0 where
      pub sound : Sound plan vs ps t seed after.state
      pub arrives : Arrives after.state after.outcome

    after_making_lem : (m : search.Making) → Sound plan vs ps t seed m.state → Steps (search.after_making f t m)
    after_making_lem m h = go m.full
      where
        go : (b : Bool) → Steps (cond b (search.stepping m.state (Some Filled)) (search.stepping m.state None))
        go true = record { sound = h; arrives = tt }
        go false = record { sound = h; arrives = tt }

    pub own_steps : (s : State) (i : ℕ) (x : Step) → x ∈ steps_from f t.trip.to (node_at s.work i)
        → x ∈ steps_from f t.trip.to (search.origin_at s.work i).node
    unfolding search.origin_at
    own_steps s i x m = m

    pub sound_pursued : (s : State) (i : ℕ) → Sound plan vs ps t seed s → i < s.counts.taken → Steps (search.pursued f t s i)
    unfolding search.pursued
    sound_pursued s i h l = go (is_in_goal t.trip.to (node_at s.work i)) refl
      where
        o : Origin
        o = search.origin_at s.work i

        steps : List Step
        steps = steps_from f t.trip.to (node_at s.work i)

        go : (b : Bool) → is_in_goal t.trip.to (node_at s.work i) ≡ b
            → Steps (cond b (search.stepping s (Some (Arrived i))) (search.after_making f t (search.made_all f t s o steps)))
        go true e = record { sound = h; arrives = (l, e) }
        go false e = after_making_lem (search.made_all f t s o steps) (sound_made_all steps s o h (origin_of s i l) (own_steps s i)).sound

    -- the place that is popped is one that is queued, and so taken
    pub popped_queued : (s : State) → Sound plan vs ps t seed s → eqb (least_in n s.work) none ≡ false
        → (least_in n s.work < n) × (is_queued n s.work (least_in n s.work) ≡ true)
    popped_queued s h e =
        ⊎_elim (λ x. absurd (eqb-false _ _ e x)) (λ x. x) (least_held (f_at s.work) n (is_queued n s.work) (omega (arith, h.fit.room.few)))

    pub popped_taken : (s : State) → Sound plan vs ps t seed s → eqb (least_in n s.work) none ≡ false → least_in n s.work < s.counts.taken
    popped_taken s h e = let q = popped_queued s h e in h.fit.queue.below (least_in n s.work) q.0 q.1

    pub sound_popped : (s : State) → Sound plan vs ps t seed s → eqb (least_in n s.work) none ≡ false
        → Sound plan vs ps t seed (search.popped f t s (least_in n s.work))
    unfolding search.popped counted
    sound_popped s h e =
        let q = popped_queued s h e in
        sound_queued s (counted s.counts) (least_in n s.work) false h refl refl (popped_taken s h e) (h.no_nan (least_in n s.work) q.0 q.1)
        (h.no_minus (least_in n s.work) q.0 q.1)

    pub popped_below : (s : State) → Sound plan vs ps t seed s → eqb (least_in n s.work) none ≡ false
        → least_in n s.work < (search.popped f t s (least_in n s.work)).counts.taken
    unfolding search.popped counted
    popped_below = popped_taken

    -- ---- every place keeps the number of its root's record

    numbered_after : (m : search.Making) → Numbered m.state → Numbered (search.after_making f t m).state
    numbered_after m h = go m.full
      where
        go : (b : Bool) → Numbered (cond b (search.stepping m.state (Some Filled)) (search.stepping m.state None)).state
        go true = h
        go false = h

    pub numbered_pursued : (s : State) (i : ℕ) → Sound plan vs ps t seed s → i < s.counts.taken → Numbered s → Numbered (search.pursued f t s i).state
    unfolding search.pursued
    numbered_pursued s i h l numbered = go (is_in_goal t.trip.to (node_at s.work i))
      where
        o : Origin
        o = search.origin_at s.work i

        steps : List Step
        steps = steps_from f t.trip.to (node_at s.work i)

        made' : search.Making
        made' = search.made_all f t s o steps

        go : (b : Bool) → Numbered (cond b (search.stepping s (Some (Arrived i))) (search.after_making f t made')).state
        go true = numbered
        go false = numbered_after made' ((sound_made_all steps s o h (origin_of s i l) (own_steps s i)).numbered numbered)

    pub numbered_popped : (s : State) (i : ℕ) → Numbered s → Numbered (search.popped f t s i)
    unfolding search.popped counted
    numbered_popped s i numbered j l = let m = numbered j l in record { found = m.found; low = m.low }
