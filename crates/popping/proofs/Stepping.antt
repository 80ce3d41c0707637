-- A step and a run: each way through the code is the definition's, and what it asks for is there. Assumes nothing.
use Prim.Native.Nat.{ℕ, zero, suc, ◌+◌, ◌*◌, ◌≤◌, ◌<◌}
use native.Mathlib.Omega.{arith}
use mathlib.Core.Path.{◌≡◌, refl, sym, ap, ◌∙◌, subst}
use mathlib.Core.Bool.{Bool, true, false}
use mathlib.Core.List.{List}
use borrow.Author.Tests.{eq-eqb, ne_eqb, lt-ltb}
use lib.Dec.{eqb}
use lib.Ieee.{Float, lt}
use lib.ListN.{length}
use Rattle.std.specs.Prelude.{Option, Some, None}
use Rattle.stored.specs.Stored.{Floor, floor_in}
use Rattle.steps.specs.declared.Node.{Node}
use Rattle.steps.specs.Steps.{steps_from}
use Rattle.steps.specs.World.{is_in_goal}
use Rattle.queue.specs.Queue.{none, place_named, put, least_of, NoNan, Tree}
use Rattle.queue.specs.Words.{column, queued_in, queue_of}
use Rattle.machine.specs.declared.Task.{Task}
use Rattle.machine.specs.declared.Counts.{Counts}
use Rattle.machine.specs.declared.Origin.{Origin}
use Rattle.machine.specs.declared.Finish.TheVariants.{Arrived, Filled, Crowded}
use Rattle.places.specs.Layout.{work_of, node_at, parent_in, depth_at, number_in, number_at, record_for, record_distance, f_at, is_queued, least_in}
use Rattle.seen.specs.declared.Entry.{Entry}
use Rattle.seen.specs.declared.Entry.TheVariants.{New, Seen, NoRoom}
use Rattle.seen.specs.Table.{key_of, remembered_of, remembered}
use Rattle.seen.specs.Kept.{IsKey}
use Rattle.machine.specs.Search.{State, state_of, Making, Stepping, stepping, Searching, searching, turning, counted, beaten_in, origin_at, made_all}
use Rattle.machine.specs.Search.{pursued, popped, met, visited}
use Rattle.edges.specs.Ground.{Ground}
use Rattle.machine.specs.Sound.{SoundFrom, Leaves}
use Rattle.machine.proofs.Kept.{popped_queued, popped_taken, sound_popped, numbered_popped}
use Rattle.machine.proofs.Turning.{place_key}

-- ---- a node that was popped

-- the rows of its root's record, and of its parent, are there
module _ {plan vs ps : List ℕ} {t : Task} {fs : List Float} {ws qs : List ℕ} {counts : Counts}
    (h : SoundFrom plan vs ps t (state_of (work_of fs ws qs) counts)) where
  pub record_row : (i : ℕ) → i < counts.taken → {number : ℕ} → number ≡ number_in ws i → (number + 1) * 11 ≤ length fs
  record_row i l kept =
      let sound = h.sound in
      omega (arith, kept, (h.numbered i l).low, sound.fit.records_in, sound.taken_in, sound.fit.room.floats_room)

  pub parent_row : (i : ℕ) → i < counts.taken → (parent_in ws i + 1) * 8 ≤ length ws
  parent_row zero l = omega (arith, h.sound.seed_parent, h.sound.fit.room.words_room, h.sound.taken_in, l)
  parent_row (suc i) l = omega (arith, (h.sound.entered (suc i) (omega arith) l).lower, h.sound.fit.room.words_room, h.sound.taken_in, l)

-- what was read of it: the node, the number of its root's record, and the distance there
pub record Popped (s : State) (i : ℕ) (node : Node) (number : ℕ) (distance : Float) : Type 0 where
  pub low : i < s.counts.taken
  pub read : node ≡ node_at s.work i
  pub numbered : number ≡ number_at s.work i
  pub told : distance ≡ record_distance s.work.floats number

-- where its steps are made from
module _ (s : State) (i : ℕ) {o : Origin} (own : o ≡ origin_at s.work i) where
  pub own_number : o.number ≡ number_at s.work i
  unfolding origin_at
  own_number = ap (λ (y : Origin). y.number) own

  pub own_place : o.place ≡ i
  unfolding origin_at
  own_place = ap (λ (y : Origin). y.place) own

  pub own_still : o ≡ origin_at s.work o.place
  own_still = own ∙ ap (origin_at s.work) (sym own_place)

  pub popped_from : i < s.counts.taken → {distance : Float} → distance ≡ record_distance s.work.floats o.number → Popped s i o.node o.number distance
  unfolding origin_at
  popped_from l told = record { low = l; read = ap (λ (y : Origin). y.node) own; numbered = own_number; told = told }

module _ {plan vs ps : List ℕ} {t : Task} (x : Searching) (h : SoundFrom plan vs ps t x.state) {i : ℕ} {node : Node} {number : ℕ} {distance : Float}
    (p : Popped x.state i node number distance) where
  abbrev f : Floor
  f = floor_in plan vs ps

  abbrev s : State
  s = x.state

  -- its root's distance is that of the record whose number was kept
  beats : lt distance node.length ≡ beaten_in s.work.floats s.counts.records node
  unfolding beaten_in
  beats =
      let m = h.numbered i p.low in
      let records = s.counts.records in
      let found : record_for s.work.floats records node.root ≡ number =
      ap (λ (y : Node). record_for s.work.floats records y.root) p.read ∙ m.found ∙ sym p.numbered in
      rw (p.told, found, lt-ltb number records (omega (arith, p.numbered, m.low)))

  pub visits_beaten : lt distance node.length ≡ true → turning x None ≡ visited f t x i
  unfolding visited
  visits_beaten e = rw (← p.read, ← beats, e)

  -- it names a polygon
  pub popped_key : IsKey (key_of node)
  popped_key = subst (λ (m : Node). IsKey (key_of m)) (sym p.read) (place_key plan vs ps t h.seed s i h.sound p.low)

  module _ (e : lt distance node.length ≡ false) {entry : Entry} {table : List ℕ}
      {recording : Bool} (told : remembered_of entry table ≡ remembered recording x.table (key_of node)) (asked : x.stall.recording ≡ recording) where
    visits_met : met f t x i entry table ≡ visited f t x i
    unfolding visited
    visits_met = rw (← p.read, ← beats, e, asked, ← told) refl

    pub visits_seen : entry ≡ Seen → turning (searching s x.stall table) None ≡ visited f t x i
    visits_seen d = ap (λ (y : Entry). met f t x i y table) (sym d) ∙ visits_met

    pub visits_no_room : entry ≡ NoRoom → turning (searching s x.stall table) (Some Crowded) ≡ visited f t x i
    visits_no_room d = ap (λ (y : Entry). met f t x i y table) (sym d) ∙ visits_met

    pub visits_new : entry ≡ New → {v : Stepping} → v ≡ pursued f t s i → turning (searching v.state x.stall table) v.outcome ≡ visited f t x i
    visits_new d pursuit =
        ap (λ (y : Stepping). turning (searching y.state x.stall table) y.outcome) pursuit
        ∙ ap (λ (y : Entry). met f t x i y table) (sym d) ∙ visits_met

  -- what its steps are made from
  pub origin_is : {depth : ℕ} → depth ≡ depth_at s.work i → record { place = i; depth = depth; number = number; node = node } ≡ origin_at s.work i
  unfolding origin_at
  origin_is d = rw (d, p.numbered, p.read) refl

-- ---- a node that is new

module _ {plan vs ps : List ℕ} {t : Task} {s : State} (h : SoundFrom plan vs ps t s) {i : ℕ} (l : i < s.counts.taken) {o : Origin}
    (own : o ≡ origin_at s.work i) where
  abbrev floor : Floor
  floor = floor_in plan vs ps

  its_node : o.node ≡ node_at s.work i
  unfolding origin_at
  its_node = ap (λ (y : Origin). y.node) own

  pub pursues_goal : o.node.polygon ≡ t.trip.to → stepping s (Some (Arrived i)) ≡ pursued floor t s i
  unfolding pursued is_in_goal
  pursues_goal g = rw (← its_node, eq-eqb _ _ g)

  module _ (g : o.node.polygon ≡ t.trip.to → ⊥) {m : Making} (made : m ≡ made_all floor t s o (steps_from floor t.trip.to o.node)) where
    pub pursues_full : m.full ≡ true → stepping m.state (Some Filled) ≡ pursued floor t s i
    unfolding pursued is_in_goal
    pursues_full full = rw (← its_node, ne_eqb _ _ g, ← own, ← made, full)

    pub pursues_on : m.full ≡ false → stepping m.state None ≡ pursued floor t s i
    unfolding pursued is_in_goal
    pursues_on full = rw (← its_node, ne_eqb _ _ g, ← own, ← made, full)

  pub leaves_of : Leaves plan vs ps s o
  leaves_of = subst (Leaves plan vs ps s) (sym own) leaves
    where
      leaves : Leaves plan vs ps s (origin_at s.work i)
      leaves =
          let held = h.sound.held i l in
          let most = h.sound.fit.room.few in
          let inside = h.sound.taken_in in
          unfold origin_at in record {
            stands = held.stands;
            leaving = record {
              on_record = h.numbered i l;
              place_few = omega (arith, l, inside, most);
              depth_few = omega (arith, held.depth_few, l, inside, most);
              points_few = omega (arith, held.points_few, held.depth_few, l, inside, most);
            };
          }

-- ---- a step

module _ {plan vs ps : List ℕ} {t : Task} {s : State} (h : SoundFrom plan vs ps t s) {found : Option ℕ} where
  -- the place that the tree gives is the least
  pub least_is : ((f : ℕ → Float) (n : ℕ) (q : ℕ → Bool) → 0 < n → n ≤ none → NoNan f n q → Tree f n q s.work.queue
      → found ≡ place_named (least_of f n q))
      → found ≡ place_named (least_in t.places s.work)
  least_is least =
      let sound = h.sound in
      least (f_at s.work) t.places (is_queued t.places s.work) (omega (arith, sound.some, sound.taken_in)) (omega (arith, sound.fit.room.few))
      sound.no_nan sound.fit.queue.tree

module _ {plan vs ps : List ℕ} {t : Task} {s : State} (h : SoundFrom plan vs ps t s) {w : ℕ} (least : w ≡ least_in t.places s.work)
    (some : w ≡ none → ⊥) (g : Ground plan vs ps) where
  abbrev seed : Node
  seed = h.seed

  queue_full : eqb (least_in t.places s.work) none ≡ false
  queue_full = rw least at (ne_eqb w none some)

  pub popped_in : w < t.places
  popped_in = rw least (popped_queued plan vs ps t seed g s h.sound queue_full).0

  pub popped_low : w < s.counts.taken
  popped_low = rw least (popped_taken plan vs ps t seed g s h.sound queue_full)

  -- the queue's words once it is out
  abbrev without : List ℕ
  without = queue_of (column s.work.floats 11 7) t.places (put (queued_in t.places s.work.queue) w false) s.work.queue

  module _ {qs : List ℕ} (q : qs ≡ without) where
    -- and the state then
    abbrev onward : State
    onward = state_of (work_of s.work.floats s.work.words qs) (counted s.counts)

    pub popped_is : onward ≡ popped (floor_in plan vs ps) t s w
    unfolding popped
    popped_is = rw q

    pub popped_sound : SoundFrom plan vs ps t onward
    unfolding popped
    popped_sound = record {
      seed = seed;
      sound = rw (q, least) (sound_popped plan vs ps t seed g s h.sound queue_full);
      numbered = rw q (numbered_popped plan vs ps t seed g s w h.numbered);
    }
