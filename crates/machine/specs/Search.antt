-- Document 01, "The search", with document 02's M-130: a machine over the lent buffers, three counters and what is known of a stall. Where a thing lies in the
-- buffers is the business of places/specs/Layout, where in the table of seen/specs/Table. specs/Before has the machine without M-130. Definitions only. Assumes
-- nothing.
use Rattle.std.specs.Prelude.{ℕ, zero, suc, ◌+◌, Bool, true, false, ◌||◌, cond, List, [], ◌∷◌, leb, ltb, eqb, Float, Option, Some, None}
use Rattle.std.specs.Float.{binary32, inf}
use Rattle.std.specs.Float.Ieee.{add, lt, is_nan}
use Rattle.point.specs.declared.Point.{Point}
use Rattle.point.specs.Point as point
use Rattle.helpers.specs.Helpers.{heuristic_of}
use Rattle.stored.specs.Stored.{Floor}
use Rattle.route.specs.declared.Step.{Step}
use Rattle.route.specs.Step.{kind_number}
use Rattle.steps.specs.declared.Node.{Node}
use Rattle.steps.specs.Steps.{steps_from, seed_node, enter}
use Rattle.steps.specs.World.{is_in_goal}
use Rattle.queue.specs.Queue.{none}
use Rattle.machine.specs.declared.Task.{Task}
use Rattle.machine.specs.declared.Counts.{Counts}
use Rattle.machine.specs.declared.Stall.{Stall}
use Rattle.machine.specs.declared.Finish.{Finish}
use Rattle.machine.specs.declared.Finish.TheVariants.{Arrived, Emptied, Filled, Stopped, Crowded}
use Rattle.machine.specs.declared.Origin.{Origin}
use Rattle.places.specs.Layout.{seed_kind, Work, node_at, depth_at, number_at, put_node, record_distance, record_for, put_record, put_distance, least_in, put_queued}
use Rattle.places.specs.Layout.{emptied, f_at}
use Rattle.seen.specs.declared.Entry.{Entry}
use Rattle.seen.specs.declared.Entry.TheVariants.{New, Seen, NoRoom}
use Rattle.seen.specs.Table.{key_of, laid_out, remembered}

-- ---- states

-- what nodes are made in
pub record State : Type 0 where
  pub work : Work
  pub counts : Counts

abbrev pub state_of : Work → Counts → State
state_of work counts = record { work = work; counts = counts }

-- after nodes were made, and whether one found no place
pub record Making : Type 0 where
  pub state : State
  pub full : Bool

abbrev pub making : State → Bool → Making
making s full = record { state = s; full = full }

-- after a node was looked at, and what came of it
pub record Stepping : Type 0 where
  pub state : State
  pub outcome : Option Finish

abbrev pub stepping : State → Option Finish → Stepping
stepping s outcome = record { state = s; outcome = outcome }

-- where it ended, and how
pub record Ending : Type 0 where
  pub state : State
  pub finish : Finish

abbrev pub ending : State → Finish → Ending
ending s finish = record { state = s; finish = finish }

-- a search under way: "The search state gains three fields"; and the table that was lent
pub record Searching : Type 0 where
  pub state : State
  pub stall : Stall
  pub table : List ℕ

abbrev pub searching : State → Stall → List ℕ → Searching
searching s stall table = record { state = s; stall = stall; table = table }

-- after a step
pub record Turn : Type 0 where
  pub search : Searching
  pub outcome : Option Finish

abbrev pub turning : Searching → Option Finish → Turn
turning x outcome = record { search = x; outcome = outcome }

-- at the end
pub record Close : Type 0 where
  pub search : Searching
  pub finish : Finish

abbrev pub closing : Searching → Finish → Close
closing x finish = record { search = x; finish = finish }

-- what is left of it for who lent the buffers: where it ended and how, and the table
pub record Rest : Type 0 where
  pub end : Ending
  pub table : List ℕ

abbrev pub rest_of : Ending → List ℕ → Rest
rest_of e table = record { end = e; table = table }

abbrev pub rest_in : Close → Rest
rest_in c = rest_of (ending c.search.state c.finish) c.search.table

-- ---- counters

unfoldable pub took_place : Counts → Counts
took_place c = record { taken = c.taken + 1; records = c.records; pops = c.pops }

unfoldable pub took_record : Counts → Counts
took_record c = record { taken = c.taken; records = c.records + 1; pops = c.pops }

unfoldable pub counted : Counts → Counts
counted c = record { taken = c.taken; records = c.records; pops = c.pops + 1 }

-- ---- distances on record

-- "its root (by ==) has a strictly smaller distance on record"
unfoldable pub beaten_in : List Float → ℕ → Node → Bool
beaten_in floats records node =
    let r = record_for floats records node.root in
    cond (ltb r records) (lt (record_distance floats r) node.length) false

abbrev pub is_beaten : State → Node → Bool
is_beaten s node = beaten_in s.work.floats s.counts.records node

-- "that record becomes its own": one that is found keeps its root's bits; else there is one more
unfoldable pub recorded : State → Node → State
recorded s node =
    let r = record_for s.work.floats s.counts.records node.root in
    cond (ltb r s.counts.records)
    (state_of (put_distance s.work r node.length) s.counts)
    (state_of (put_record s.work r node.root node.length) (took_record s.counts))

-- ---- making nodes

-- a place is put into the queue
unfoldable pub queued : ℕ → State → ℕ → State
queued n s i = state_of (put_queued n s.work i true) s.counts

-- "dropped only if its root (by ==) has a strictly smaller distance on record, else that record becomes its own", and it is queued
unfoldable pub kept : ℕ → State → ℕ → Node → State
kept n s i node = cond (is_beaten s node) s (queued n (recorded s node) i)

-- "it takes the next place"; it keeps the number of the record that its root has, or is the next to have
unfoldable pub placed : State → Origin → ℕ → Node → Float → State
placed s from kind node f =
    let number = record_for s.work.floats s.counts.records node.root in
    state_of (put_node s.work s.counts.taken kind node f from.place (from.depth + 1) number) (took_place s.counts)

-- "Then it takes the next place, even if it is dropped after"
unfoldable pub taken : ℕ → State → Origin → ℕ → Node → Float → State
taken n s from kind node f = kept n (placed s from kind node f) s.counts.taken node

-- where a node at a place is made from
unfoldable pub origin_at : Work → ℕ → Origin
origin_at w i = record { place = i; depth = depth_at w i; number = number_at w i; node = node_at w i }

module _ (vertices : List Point) (t : Task) where
  -- "A made node takes distance plus the leg when the root changed, and the heuristic; NaN in either makes nothing."
  -- "11: a node needs a place and none is left"
  unfoldable pub made : State → Origin → Step → Making
  made s from step =
      let node = enter vertices from.node step in
      let heuristic = heuristic_of node.root t.trip.goal node.interval in
      cond (is_nan node.length || is_nan heuristic) (making s false)
      (cond (leb t.places s.counts.taken) (making s true)
      (making (taken t.places s from (kind_number step.kind) node (add binary32 node.length heuristic)) false))

module _ (f : Floor) (t : Task) where
  -- the node of a step, if there is one
  abbrev pub made_if : State → Origin → Option Step → Making
  made_if s from (Some step) = made f.vertices t s from step
  made_if s from None = making s false

  -- one after the other, until one finds no place
  unfoldable pub made_all : State → Origin → List Step → Making
  made_all s from [] = making s false
  made_all s from (step ∷ steps) =
      let m = made f.vertices t s from step in
      cond m.full m (made_all m.state from steps)

  -- ---- a node that is looked at

  abbrev pub after_making : Making → Stepping
  after_making m = cond m.full (stepping m.state (Some Filled)) (stepping m.state None)

  -- "In the goal polygon: found. Else make its steps."
  unfoldable pub pursued : State → ℕ → Stepping
  pursued s i =
      let node = node_at s.work i in
      cond (is_in_goal t.trip.to node) (stepping s (Some (Arrived i)))
      (after_making (made_all s (origin_at s.work i) (steps_from f t.trip.to node)))

  -- "pop the node of least f = distance + heuristic, equal f by lower place (ours, listed); count one": its place is taken out of the queue
  unfoldable pub popped : State → ℕ → State
  popped s i = state_of (put_queued t.places s.work i false) (counted s.counts)

  -- ---- a search begins

  -- "place 0 is the seed with distance 0", and the start is on record with it; nothing is queued
  unfoldable pub planted : Node → Work → Work
  planted seed w = put_record (put_node (emptied t.places w) 0 seed_kind seed point.zero 0 0 0) 0 seed.root point.zero

  unfoldable pub begun : Node → Work → State
  begun seed w = state_of (planted seed w) (record { taken = 1; records = 1; pops = 0 })

  unfoldable pub seed_origin : Node → Origin
  seed_origin seed = record { place = 0; depth = 0; number = 0; node = seed }

  -- "Else place 0 is the seed with distance 0 and all its steps are made."
  unfoldable pub outset : Work → Making
  outset w =
      let seed = seed_node t.trip.start t.trip.from in
      made_all (begun seed w) (seed_origin seed) (steps_from f t.trip.to seed)

-- ---- a stall

-- "above 512"
abbrev pub patience : ℕ
patience = 512

-- "last_f begins below every f, so the first pop raises it."
abbrev pub calm : Stall
calm = record { last_f = inf true; count = 0; recording = false }

-- "last_f, a count of pops since it last rose, and recording once that count is above 512": after a pop with this f
unfoldable pub noticed : Stall → Float → Stall
noticed stall f =
    let count = stall.count + 1 in
    cond stall.recording stall
    (cond (lt stall.last_f f) (record { last_f = f; count = 0; recording = false })
    (record { last_f = stall.last_f; count = count; recording = ltb patience count }))

-- the table is laid out where recording begins, and untouched before
unfoldable pub table_after : Stall → Stall → List ℕ → List ℕ
table_after before after table = cond before.recording table (cond after.recording (laid_out table) table)

unfoldable pub watched : Searching → State → Float → Searching
watched x s f = let after = noticed x.stall f in searching s after (table_after x.stall after x.table)

module _ (f : Floor) (t : Task) where
  -- ---- a step

  -- "a popped node whose ten words have been seen is dropped"; "14, a new entry needed and the table full"
  abbrev pub met : Searching → ℕ → Entry → List ℕ → Turn
  met x i New table = let after = pursued f t x.state i in turning (searching after.state x.stall table) after.outcome
  met x i Seen table = turning (searching x.state x.stall table) None
  met x i NoRoom table = turning (searching x.state x.stall table) (Some Crowded)

  -- "Dropped if its root has a strictly smaller distance."; "While recording, after the root test and before the goal test"
  unfoldable pub visited : Searching → ℕ → Turn
  visited x i =
      let node = node_at x.state.work i in
      let r = remembered x.stall.recording x.table (key_of node) in
      cond (is_beaten x.state node) (turning x None) (met x i r.entry r.table)

  -- "A step: empty queue is 1; .. else pop"
  unfoldable pub step : Searching → Turn
  step x =
      let i = least_in t.places x.state.work in
      cond (eqb i none) (turning x (Some Emptied)) (visited (watched x (popped f t x.state i) (f_at x.state.work i)) i)

  -- ---- a run

  abbrev pub onwards : Searching → Option Finish → (Searching → Close) → Close
  onwards x None next = next x
  onwards x (Some finish) next = closing x finish

  -- steps until the search ends: "empty queue is 1; budget spent is 12"
  unfoldable pub run : ℕ → Searching → Close
  run zero x = cond (eqb (least_in t.places x.state.work) none) (closing x Emptied) (closing x Stopped)
  run (suc budget) x = onwards (step x).search (step x).outcome (run budget)

  unfoldable pub searched_from : ℕ → Work → List ℕ → Close
  searched_from budget w table =
      let m = outset f t w in
      let x = searching m.state calm table in
      cond m.full (closing x Filled) (run budget x)
