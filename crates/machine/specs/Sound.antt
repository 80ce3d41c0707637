-- What holds of every state that a search comes through: each place below `taken` holds the seed or a node that a permitted step led to from a lower place, and
-- the queue's words are the tree of some of these places; and each place keeps the number of its root's record. Below the door the functions ask for it.
-- Definitions only. Assumes nothing.
use Rattle.std.specs.Prelude.{ℕ, ◌+◌, ◌≤◌, ◌<◌, ◌≡◌, Bool, true, false, not, List, T, eqb, Float}
use Rattle.std.specs.Float.{nan, inf, fin}
use Rattle.point.specs.declared.Point.{Point}
use Rattle.point.specs.Point.{same_of}
use Rattle.plan.specs.Plan.{polygon_count_in}
use Rattle.stored.specs.Stored.{Floor, floor_in}
use Rattle.edges.specs.Ground.{Ground}
use Rattle.route.specs.World.{◌∈◌}
use Rattle.steps.specs.declared.Node.{Node}
use Rattle.steps.specs.Steps.{steps_from, enter}
use Rattle.going.specs.Going.{Stands}
use Rattle.queue.specs.Queue.{Tree, NoNan}
use Rattle.machine.specs.declared.Task.{Task}
use Rattle.machine.specs.declared.Origin.{Origin}
use Rattle.places.specs.Layout.{most_places, Work, Room, node_at, step_at, parent_at, depth_at, number_at, f_at, is_queued, record_for}
use Rattle.seen.specs.Kept.{Records}
use Rattle.machine.specs.Search.{State, Searching, patience}

-- a float without a minus sign, or NaN
abbrev pub is_plus : Float → Bool
is_plus nan = true
is_plus (inf s) = not s
is_plus (fin s m e) = not s

-- ---- places

-- a permitted step led to this place
pub record Entered (f : Floor) (t : Task) (w : Work) (i : ℕ) : Type 0 where
  pub lower : parent_at w i < i
  pub permitted : step_at w i ∈ steps_from f t.trip.to (node_at w (parent_at w i))
  pub entered : node_at w i ≡ enter f.vertices (node_at w (parent_at w i)) (step_at w i)
  pub deeper : depth_at w i ≡ depth_at w (parent_at w i) + 1

-- what a place holds, whatever led to it
pub record Held (plan vertices polygons : List ℕ) (w : Work) (i : ℕ) : Type 0 where
  pub stands : Stands plan vertices polygons (node_at w i)
  pub plus : T (is_plus (node_at w i).length)
  pub points_few : (node_at w i).points ≤ depth_at w i
  pub depth_few : depth_at w i ≤ i

-- ---- the queue

-- its words are the tree of the places that they say are queued, and each of these is taken
pub record Queue (n taken : ℕ) (w : Work) : Type 0 where
  pub tree : Tree (f_at w) n (is_queued n w) w.queue
  pub below : (i : ℕ) → i < n → is_queued n w i ≡ true → i < taken

-- ---- before the first step

-- what a search asks for: an accepted floor, room for every place and one place at least, a start that is a point in a listed polygon, not the goal's
pub record Begins (plan vertices polygons : List ℕ) (t : Task) (w : Work) : Type 0 where
  pub ground : Ground plan vertices polygons
  pub room : Room t.places w
  pub places : 1 ≤ t.places
  pub listed : t.trip.from < polygon_count_in plan
  pub apart : eqb t.trip.from t.trip.to ≡ false
  pub self : same_of t.trip.start t.trip.start ≡ true

-- ---- states

-- what making nodes asks of a state: there is room for every place, no more records than places are taken, and the queue is one
pub record Fit (t : Task) (s : State) : Type 0 where
  pub room : Room t.places s.work
  pub records_in : s.counts.records ≤ s.counts.taken
  pub queue : Queue t.places s.counts.taken s.work

pub record Sound (plan vertices polygons : List ℕ) (t : Task) (seed : Node) (s : State) : Type 0 where
  pub fit : Fit t s
  pub some : 1 ≤ s.counts.taken
  pub taken_in : s.counts.taken ≤ t.places
  pub first_is_seed : node_at s.work 0 ≡ seed
  pub seed_parent : parent_at s.work 0 ≡ 0
  pub seed_depth : depth_at s.work 0 ≡ 0
  pub held : (i : ℕ) → i < s.counts.taken → Held plan vertices polygons s.work i
  pub entered : (i : ℕ) → 0 < i → i < s.counts.taken → Entered (floor_in plan vertices polygons) t s.work i
  pub no_nan : NoNan (f_at s.work) t.places (is_queued t.places s.work)
  pub no_minus : (i : ℕ) → i < t.places → is_queued t.places s.work i ≡ true → T (is_plus (f_at s.work i))

-- ---- distances on record

-- the record of a root is the one with this number
pub record OnRecord (s : State) (root : Point) (r : ℕ) : Type 0 where
  pub found : record_for s.work.floats s.counts.records root ≡ r
  pub low : r < s.counts.records

-- every place that is taken keeps its root's
abbrev pub Numbered : State → Type 0
Numbered s = (i : ℕ) → i < s.counts.taken → OnRecord s (node_at s.work i).root (number_at s.work i)

-- from some seed
pub record SoundFrom (plan vertices polygons : List ℕ) (t : Task) (s : State) : Type 0 where
  pub seed : Node
  pub sound : Sound plan vertices polygons t seed s
  pub numbered : Numbered s

-- ---- a search under way

-- before it records it has not been patient for too long, and when it records its table holds what it met since
pub record Watches (x : Searching) : Type 0 where
  pub patient : x.stall.recording ≡ false → x.stall.count ≤ patience
  pub records : x.stall.recording ≡ true → Records x.table

pub record SoundSearch (plan vertices polygons : List ℕ) (t : Task) (x : Searching) : Type 0 where
  pub from : SoundFrom plan vertices polygons t x.state
  pub watches : Watches x

-- ---- where steps are made from

-- what a state and a place in it ask for each other
pub record Leaving (s : State) (o : Origin) : Type 0 where
  pub on_record : OnRecord s o.node.root o.number
  pub place_few : o.place ≤ most_places
  pub depth_few : o.depth ≤ most_places
  pub points_few : o.node.points ≤ most_places

pub record Leaves (plan vertices polygons : List ℕ) (s : State) (o : Origin) : Type 0 where
  pub stands : Stands plan vertices polygons o.node
  pub leaving : Leaving s o
