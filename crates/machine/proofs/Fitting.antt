-- Making nodes leaves a state fit for making more: the lent buffers stay as long as they are, no more records than places are taken, and the queue stays one.
-- Assumes nothing.
use Prim.Native.Nat.{ℕ, ◌+◌, ◌≤◌, ◌<◌}
use native.Mathlib.Omega.{arith}
use mathlib.Core.Path.{◌≡◌, refl, sym, ◌∙◌}
use mathlib.Core.Bool.{Bool, true, false, cond, ◌||◌}
use mathlib.Core.List.{List}
use mathlib.Core.Logic.{◌⊎◌, inl, inr}
use lib.Dec.{leb, ltb}
use lib.Ieee.{Float, binary32, add, is_nan}
use lib.ListN.{length}
use Rattle.helpers.specs.Helpers.{heuristic_of}
use Rattle.stored.specs.Stored.{Floor}
use Rattle.route.specs.declared.Step.{Step}
use Rattle.route.specs.Step.{kind_number}
use Rattle.steps.specs.declared.Node.{Node}
use Rattle.steps.specs.Steps.{enter}
use Rattle.queue.specs.Queue.{none, put}
use Rattle.queue.proofs.Queued.{put_other}
use Rattle.machine.specs.declared.Task.{Task}
use Rattle.machine.specs.declared.Counts.{Counts}
use Rattle.machine.specs.declared.Origin.{Origin}
use Rattle.places.specs.Layout.{work_of, record_for, record_put, put_record, distance_put, put_distance, is_queued, put_queued}
use Rattle.machine.specs.Search.{State, state_of, making, took_place, took_record, recorded, queued, is_beaten, kept, placed, taken, made}
use Rattle.machine.specs.Sound.{Fit}
use Rattle.places.proofs.Rows.{SameFloats, which, put_floats_length, put_words_length, record_length, record_beside, distance_length, distance_beside}
use Rattle.places.proofs.Queued.{put_queued_lem, put_queued_tree, put_queued_room, tree_beside, tree_behind}

-- ---- distances on record

-- a distance is put where the root's record is found, and a record where there is none
abbrev pub recorded_found : State → Node → State
recorded_found s node = state_of (put_distance s.work (record_for s.work.floats s.counts.records node.root) node.length) s.counts

abbrev pub recorded_new : State → Node → State
recorded_new s node =
    let r = record_for s.work.floats s.counts.records node.root in
    state_of (put_record s.work r node.root node.length) (took_record s.counts)

pub recorded_taken : (s : State) (node : Node) → (recorded s node).counts.taken ≡ s.counts.taken
unfolding recorded took_record
recorded_taken s node = go (ltb (record_for s.work.floats s.counts.records node.root) s.counts.records)
  where
    go : (b : Bool) → (cond b (recorded_found s node) (recorded_new s node)).counts.taken ≡ s.counts.taken
    go true = refl
    go false = refl

module _ (t : Task) where
  -- ---- each thing that is done

  -- other floats in which every node is what it was, and so its f
  pub fit_beside : (s : State) (floats : List Float) (c : Counts) → Fit t s → ((i : ℕ) → SameFloats floats s.work.floats i)
      → length floats ≡ length s.work.floats → c.taken ≡ s.counts.taken → c.records ≤ c.taken
      → Fit t (state_of (work_of floats s.work.words s.work.queue) c)
  fit_beside s floats c h same long taken few = record {
    room = record { floats_room = rw long h.room.floats_room; words_room = h.room.words_room; queue_room = h.room.queue_room; few = h.room.few };
    records_in = few;
    queue = record {
      tree = tree_beside t.places (omega (arith, h.room.few)) s.work.floats s.work.queue h.queue.tree floats same;
      below = λ i l q. rw taken (h.queue.below i l q);
    };
  }

  -- a node at the next place, which is behind every queued one
  pub fit_placed : (s : State) (o : Origin) (kind : ℕ) (node : Node) (f : Float) → Fit t s → Fit t (placed s o kind node f)
  unfolding placed took_place
  fit_placed s o kind node f h =
      let number = record_for s.work.floats s.counts.records node.root in
      let few : t.places ≤ none = omega (arith, h.room.few) in
      record {
        room = record {
          floats_room = rw (put_floats_length s.work.floats s.counts.taken node f) h.room.floats_room;
          words_room = rw (put_words_length s.work.words s.counts.taken kind node o.place (o.depth + 1) number) h.room.words_room;
          queue_room = h.room.queue_room;
          few = h.room.few;
        };
        records_in = omega (arith, h.records_in);
        queue = record {
          tree = tree_behind t.places few s.work.floats s.work.queue h.queue.tree s.counts.taken node f h.queue.below;
          below = λ i l q. omega (arith, h.queue.below i l q);
        };
      }

  -- a taken place queued, or not
  pub fit_queued : (s : State) (c : Counts) (i : ℕ) (b : Bool) → Fit t s → c.taken ≡ s.counts.taken → c.records ≡ s.counts.records
      → i < s.counts.taken
      → Fit t (state_of (put_queued t.places s.work i b) c)
  fit_queued s c i b h taken records low = record {
    room = put_queued_room t.places s.work i b h.room;
    records_in = rw (records, taken) h.records_in;
    queue = record {
      tree = put_queued_tree t.places s.work i b few;
      below = λ j l q. rw taken (go j l (which i j) (sym (put_queued_lem t.places s.work i b few j l) ∙ q));
    };
  }
    where
      few : t.places ≤ none
      few = omega (arith, h.room.few)

      go : (j : ℕ) → j < t.places → (j < i) ⊎ ((j ≡ i) ⊎ (i < j)) → put (is_queued t.places s.work) i b j ≡ true → j < s.counts.taken
      go j l (inl d) q = omega (arith, d, low)
      go j l (inr (inl e)) q = omega (arith, e, low)
      go j l (inr (inr d)) q = h.queue.below j l (sym (put_other (is_queued t.places s.work) i b j (λ e. omega arith)) ∙ q)

  -- ---- a node is made

  fit_recorded : (s : State) (node : Node) → Fit t s → s.counts.records < s.counts.taken → Fit t (recorded s node)
  unfolding recorded took_record
  fit_recorded s node h l = go (ltb r s.counts.records)
    where
      floats : List Float
      floats = s.work.floats

      r : ℕ
      r = record_for floats s.counts.records node.root

      go : (b : Bool) → Fit t (cond b (recorded_found s node) (recorded_new s node))
      go true =
          fit_beside s (distance_put floats r node.length) s.counts h (distance_beside floats r node.length)
          (distance_length floats r node.length) refl h.records_in
      go false =
          fit_beside s (record_put floats r node.root node.length) (took_record s.counts) h (record_beside floats r node.root node.length)
          (record_length floats r node.root node.length) refl (omega (arith, l))

  fit_kept : (s : State) (i : ℕ) (node : Node) → Fit t s → s.counts.records < s.counts.taken → i < s.counts.taken
      → Fit t (kept t.places s i node)
  unfolding kept queued
  fit_kept s i node h l low = go (is_beaten s node)
    where
      after : State
      after = recorded s node

      go : (b : Bool) → Fit t (cond b s (state_of (put_queued t.places after.work i true) after.counts))
      go true = h
      go false = fit_queued after after.counts i true (fit_recorded s node h l) refl refl (rw (recorded_taken s node) low)

  fit_taken : (s : State) (o : Origin) (kind : ℕ) (node : Node) (f : Float) → Fit t s → Fit t (taken t.places s o kind node f)
  unfolding taken placed took_place
  fit_taken s o kind node f h =
      fit_kept (placed s o kind node f) s.counts.taken node (fit_placed s o kind node f h) (omega (arith, h.records_in)) (omega arith)

  module _ (f : Floor) where
    pub fit_made : (s : State) (o : Origin) (step : Step) → Fit t s → Fit t (made f.vertices t s o step).state
    unfolding made
    fit_made s o step h = go (is_nan node.length || is_nan (heuristic_of node.root t.trip.goal node.interval)) (leb t.places s.counts.taken)
      where
        node : Node
        node = enter f.vertices o.node step

        value : Float
        value = add binary32 node.length (heuristic_of node.root t.trip.goal node.interval)

        go : (a b : Bool)
            → Fit t (cond a (making s false) (cond b (making s true) (making (taken t.places s o (kind_number step.kind) node value) false))).state
        go true b = h
        go false true = h
        go false false = fit_taken s o (kind_number step.kind) node value h
