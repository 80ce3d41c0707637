-- What holds of every search under way is kept by a step and by a run: its state is sound, it is not patient for too long, and its table holds what it met.
-- Rests on specs/Sound and proofs/Kept. Assumes nothing.
use Prim.Native.Nat.{ℕ, zero, suc, ◌+◌, ◌≤◌, ◌<◌}
use native.Mathlib.Omega.{arith}
use mathlib.Core.Path.{◌≡◌, refl, ◌∙◌}
use mathlib.Core.Bool.{Bool, true, false, cond}
use mathlib.Core.List.{List}
use borrow.Author.Tests.{ltb-false}
use lib.Dec.{eqb, ltb}
use lib.Ieee.{Float, lt}
use Rattle.std.specs.Prelude.{Option, Some, None}
use Rattle.machine.specs.declared.Finish.{Finish}
use Rattle.float.proofs.Tests.{untrue}
use Rattle.stored.specs.Stored.{Floor, floor_in}
use Rattle.edges.specs.Ground.{Ground}
use Rattle.steps.specs.declared.Node.{Node}
use Rattle.queue.specs.Queue.{none}
use Rattle.places.specs.Layout.{node_at, least_in, f_at}
use Rattle.seen.specs.declared.Entry.{Entry}
use Rattle.seen.specs.declared.Entry.TheVariants.{New, Seen, NoRoom}
use Rattle.seen.specs.Table.{key_of, laid_out, Remembered, remembered}
use Rattle.seen.specs.Kept.{IsKey, Records}
use Rattle.seen.proofs.Remembering.{node_key, records_laid, kept_remembered}
use Rattle.machine.specs.declared.Task.{Task}
use Rattle.machine.specs.declared.Stall.{Stall}
use Rattle.machine.specs.declared.Finish.TheVariants.{Emptied, Stopped}
use Rattle.machine.specs.Search.{State, Searching, patience, noticed, table_after, watched}
use Rattle.machine.specs.Search as search
use Rattle.machine.specs.Sound.{Sound, Numbered, Watches}
use Rattle.machine.proofs.Kept.{Arrives, sound_pursued, numbered_pursued, popped_below, sound_popped, numbered_popped}

-- ---- a pop is noticed

pub noticed_patient : (s : Stall) (f : Float) → (s.recording ≡ false → s.count ≤ patience) → (noticed s f).recording ≡ false
    → (noticed s f).count ≤ patience
unfolding noticed
noticed_patient s f few = go s.recording (lt s.last_f f) (ltb patience (s.count + 1)) refl
  where
    risen : Stall
    risen = record { last_f = f; count = 0; recording = false }

    on : Bool → Stall
    on b = record { last_f = s.last_f; count = s.count + 1; recording = b }

    go : (a b c : Bool) → ltb patience (s.count + 1) ≡ c
        → (cond a s (cond b risen (on c))).recording ≡ false → (cond a s (cond b risen (on c))).count ≤ patience
    go true b c x e = few e
    go false true c x e = omega arith
    go false false c x e = ltb-false patience (s.count + 1) (x ∙ e)

pub table_records : (before after : Stall) (table : List ℕ) → (before.recording ≡ true → Records table) → after.recording ≡ true
    → Records (table_after before after table)
unfolding table_after
table_records before after table h = go before.recording after.recording h
  where
    go : (a b : Bool) → (a ≡ true → Records table) → b ≡ true → Records (cond a table (cond b (laid_out table) table))
    go true b h e = h refl
    go false true h e = records_laid table
    go false false h e = untrue e

pub watches_watched : (x : Searching) (s : State) (f : Float) → Watches x → Watches (watched x s f)
unfolding watched
watches_watched x s f h = record {
  patient = noticed_patient x.stall f h.patient;
  records = table_records x.stall (noticed x.stall f) x.table h.records;
}

-- a place that is taken holds a node of a polygon
pub place_key : (plan vs ps : List ℕ) (t : Task) (seed : Node) (s : State) (i : ℕ) → Sound plan vs ps t seed s → i < s.counts.taken
    → IsKey (key_of (node_at s.work i))
place_key plan vs ps t seed s i h l =
    let listed = (h.held i l).stands.listed in
    let planned = listed.polygons_planned in
    node_key (node_at s.work i) (λ e. omega (arith, listed.listed, planned.counted, planned.few, e))

module _ (plan vs ps : List ℕ) (t : Task) (seed : Node) (g : Ground plan vs ps) where
  abbrev f : Floor
  f = floor_in plan vs ps

  abbrev n : ℕ
  n = t.places

  -- ---- a node that was popped

  pub record Turns (after : search.Turn) : Type 0 where
    pub sound : Sound plan vs ps t seed after.search.state
    pub arrives : Arrives plan vs ps t seed g after.search.state after.outcome

  turns_met : (x : Searching) (i : ℕ) (e : Entry) (table : List ℕ) → Sound plan vs ps t seed x.state → i < x.state.counts.taken
      → Turns (search.met f t x i e table)
  turns_met x i New table h l = let p = sound_pursued plan vs ps t seed g x.state i h l in record { sound = p.sound; arrives = p.arrives }
  turns_met x i Seen table h l = record { sound = h; arrives = tt }
  turns_met x i NoRoom table h l = record { sound = h; arrives = tt }

  numbered_met : (x : Searching) (i : ℕ) (e : Entry) (table : List ℕ) → Sound plan vs ps t seed x.state → i < x.state.counts.taken
      → Numbered x.state → Numbered (search.met f t x i e table).search.state
  numbered_met x i New table h l m = numbered_pursued plan vs ps t seed g x.state i h l m
  numbered_met x i Seen table h l m = m
  numbered_met x i NoRoom table h l m = m

  watches_met : (x : Searching) (i : ℕ) (e : Entry) (table : List ℕ) → Watches x → (x.stall.recording ≡ true → Records table)
      → Watches (search.met f t x i e table).search
  watches_met x i New table h r = record { patient = h.patient; records = r }
  watches_met x i Seen table h r = record { patient = h.patient; records = r }
  watches_met x i NoRoom table h r = record { patient = h.patient; records = r }

  module _ (x : Searching) (i : ℕ) (h : Sound plan vs ps t seed x.state) (l : i < x.state.counts.taken) where
    abbrev node : Node
    node = node_at x.state.work i

    abbrev told : Remembered
    told = remembered x.stall.recording x.table (key_of node)

    sound_visited : Turns (search.visited f t x i)
    unfolding search.visited
    sound_visited = go (search.is_beaten x.state node)
      where
        go : (b : Bool) → Turns (cond b (search.turning x None) (search.met f t x i told.entry told.table))
        go true = record { sound = h; arrives = tt }
        go false = turns_met x i told.entry told.table h l

    numbered_visited : Numbered x.state → Numbered (search.visited f t x i).search.state
    unfolding search.visited
    numbered_visited m = go (search.is_beaten x.state node)
      where
        go : (b : Bool) → Numbered (cond b (search.turning x None) (search.met f t x i told.entry told.table)).search.state
        go true = m
        go false = numbered_met x i told.entry told.table h l m

    watches_visited : Watches x → Watches (search.visited f t x i).search
    unfolding search.visited
    watches_visited w = go (search.is_beaten x.state node)
      where
        go : (b : Bool) → Watches (cond b (search.turning x None) (search.met f t x i told.entry told.table)).search
        go true = w
        go false =
            watches_met x i told.entry told.table w
            (kept_remembered x.stall.recording x.table (key_of node) w.records (place_key plan vs ps t seed x.state i h l))

  -- ---- a step

  module _ (x : Searching) (h : Sound plan vs ps t seed x.state) where
    abbrev least : ℕ
    least = least_in n x.state.work

    abbrev without : State
    without = search.popped f t x.state least

    abbrev next : Searching
    next = watched x without (f_at x.state.work least)

    pub next_sound : eqb least none ≡ false → Sound plan vs ps t seed next.state
    unfolding watched
    next_sound e = sound_popped plan vs ps t seed g x.state h e

    pub next_below : eqb least none ≡ false → least < next.state.counts.taken
    unfolding watched
    next_below e = popped_below plan vs ps t seed g x.state h e

    next_numbered : Numbered x.state → Numbered next.state
    unfolding watched
    next_numbered m = numbered_popped plan vs ps t seed g x.state least m

    pub sound_step : Turns (search.step f t x)
    unfolding search.step
    sound_step = go (eqb least none) refl
      where
        go : (b : Bool) → eqb least none ≡ b → Turns (cond b (search.turning x (Some Emptied)) (search.visited f t next least))
        go true e = record { sound = h; arrives = tt }
        go false e = sound_visited next least (next_sound e) (next_below e)

    pub numbered_step : Numbered x.state → Numbered (search.step f t x).search.state
    unfolding search.step
    numbered_step m = go (eqb least none) refl
      where
        go : (b : Bool) → eqb least none ≡ b
            → Numbered (cond b (search.turning x (Some Emptied)) (search.visited f t next least)).search.state
        go true e = m
        go false e = numbered_visited next least (next_sound e) (next_below e) (next_numbered m)

    pub watches_step : Watches x → Watches (search.step f t x).search
    unfolding search.step
    watches_step w = go (eqb least none) refl
      where
        go : (b : Bool) → eqb least none ≡ b → Watches (cond b (search.turning x (Some Emptied)) (search.visited f t next least)).search
        go true e = w
        go false e =
            watches_visited next least (next_sound e) (next_below e) (watches_watched x without (f_at x.state.work least) w)

  -- ---- a run

  -- a search that has ended
  pub record Finishes (e : search.Close) : Type 0 where
    pub sound : Sound plan vs ps t seed e.search.state
    pub arrives : Arrives plan vs ps t seed g e.search.state (Some e.finish)

  pub sound_run : (budget : ℕ) (x : Searching) → Sound plan vs ps t seed x.state → Finishes (search.run f t budget x)
  unfolding search.run
  sound_run zero x h = go (eqb (least_in n x.state.work) none)
    where
      go : (b : Bool) → Finishes (cond b (search.closing x Emptied) (search.closing x Stopped))
      go true = record { sound = h; arrives = tt }
      go false = record { sound = h; arrives = tt }
  sound_run (suc budget) x h = go (search.step f t x).outcome (sound_step x h).arrives (sound_step x h).sound (sound_run budget)
    where
      after : Searching
      after = (search.step f t x).search

      go : (o : Option Finish) → Arrives plan vs ps t seed g after.state o → Sound plan vs ps t seed after.state
          → ((u : Searching) → Sound plan vs ps t seed u.state → Finishes (search.run f t budget u))
          → Finishes (search.onwards f t after o (search.run f t budget))
      go None a h next = next after h
      go (Some finish) a h next = record { sound = h; arrives = a }
