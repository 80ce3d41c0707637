-- Where things lie in the lent buffers: the one file that knows. A place is a row of 11 floats, a row of 8 words, and two words of the queue. Beside a node, a
-- row of floats holds one record of a root and its distance. Definitions only. Assumes nothing.
use Rattle.std.specs.Prelude.{ℕ, suc, ◌+◌, ◌*◌, ◌/◌, ◌≤◌, min, Bool, List, [], ◌∷◌, eqb, length, get_or, set, Float}
use Rattle.std.specs.Float.{nan}
use Rattle.counts.specs.Counts.{first}
use Rattle.point.specs.declared.Point.{Point}
use Rattle.point.specs.declared.Segment.{Segment}
use Rattle.point.specs.Point.{point_of, same_of}
use Rattle.route.specs.declared.Step.{Step}
use Rattle.route.specs.Step.{kind_of}
use Rattle.steps.specs.declared.Node.{Node}
use Rattle.queue.specs.Queue.{put, least_of}
use Rattle.queue.specs.Words.{column, queued_in, cleared, queue_of}

-- ---- its numbers

-- what a place has of each list that is lent
abbrev pub floats_per_place : ℕ
floats_per_place = 11

abbrev pub words_per_place : ℕ
words_per_place = 8

abbrev pub queue_words_per_place : ℕ
queue_words_per_place = 2

-- "at most 4,096"
abbrev pub most_places : ℕ
most_places = 4096

-- the cells of a row of floats: the node's interval, root and length, and its f
abbrev pub right_xcell : ℕ
right_xcell = 0

abbrev pub right_ycell : ℕ
right_ycell = 1

abbrev pub left_xcell : ℕ
left_xcell = 2

abbrev pub left_ycell : ℕ
left_ycell = 3

abbrev pub root_xcell : ℕ
root_xcell = 4

abbrev pub root_ycell : ℕ
root_ycell = 5

abbrev pub length_cell : ℕ
length_cell = 6

abbrev pub f_cell : ℕ
f_cell = 7

-- and the record beside it
abbrev pub record_xcell : ℕ
record_xcell = 8

abbrev pub record_ycell : ℕ
record_ycell = 9

abbrev pub distance_cell : ℕ
distance_cell = 10

-- the cells of a row of words
abbrev pub kind_cell : ℕ
kind_cell = 0

abbrev pub polygon_cell : ℕ
polygon_cell = 1

abbrev pub first_cell : ℕ
first_cell = 2

abbrev pub second_cell : ℕ
second_cell = 3

abbrev pub parent_cell : ℕ
parent_cell = 4

abbrev pub points_cell : ℕ
points_cell = 5

abbrev pub depth_cell : ℕ
depth_cell = 6

abbrev pub number_cell : ℕ
number_cell = 7

-- the seed's kind, as in its record; a step's is the number in its own
abbrev pub seed_kind : ℕ
seed_kind = 1

-- ---- what is lent

pub record Work : Type 0 where
  pub floats : List Float
  pub words : List ℕ
  pub queue : List ℕ

abbrev pub work_of : List Float → List ℕ → List ℕ → Work
work_of floats words queue = record { floats = floats; words = words; queue = queue }

-- "N is the whole nodes that the lent work buffers hold, at most 4,096"
unfoldable pub places_in : Work → ℕ
places_in w =
    let rows = min (length w.floats / floats_per_place) (length w.words / words_per_place) in
    min (min rows (length w.queue / queue_words_per_place)) most_places

-- there is a row of each list for every one of the n places
pub record Room (n : ℕ) (w : Work) : Type 0 where
  pub floats_room : n * floats_per_place ≤ length w.floats
  pub words_room : n * words_per_place ≤ length w.words
  pub queue_room : queue_words_per_place * n ≤ length w.queue
  pub few : n ≤ most_places

-- ---- rows

-- a row, or a part of it from number k on, stored cell by cell
unfoldable pub puts : {A : Type 0} → List A → ℕ → ℕ → List A → List A
puts l row k [] = l
puts l row k (x ∷ xs) = puts (set l (row + k) x) row (suc k) xs

unfoldable pub float_at : List Float → ℕ → ℕ → Float
float_at floats i k = get_or floats (i * floats_per_place + k) nan

unfoldable pub word_at : List ℕ → ℕ → ℕ → ℕ
word_at words i k = get_or words (i * words_per_place + k) 0

-- ---- the node at a place

unfoldable pub interval_in : List Float → ℕ → Segment
interval_in floats i = (
  point_of (float_at floats i right_xcell) (float_at floats i right_ycell),
  point_of (float_at floats i left_xcell) (float_at floats i left_ycell),
)

-- the place from which it was entered
unfoldable pub parent_in : List ℕ → ℕ → ℕ
parent_in words i = word_at words i parent_cell

abbrev pub parent_at : Work → ℕ → ℕ
parent_at w i = parent_in w.words i

-- the polygon of that place, which was left for this one
unfoldable pub left_in : List ℕ → ℕ → ℕ
left_in words i = word_at words (parent_in words i) polygon_cell

unfoldable pub node_in : List Float → List ℕ → ℕ → Node
node_in floats words i = record {
  seed = eqb (word_at words i kind_cell) seed_kind;
  left = left_in words i;
  polygon = word_at words i polygon_cell;
  first = word_at words i first_cell;
  second = word_at words i second_cell;
  interval = interval_in floats i;
  root = point_of (float_at floats i root_xcell) (float_at floats i root_ycell);
  length = float_at floats i length_cell;
  points = word_at words i points_cell;
}

abbrev pub node_at : Work → ℕ → Node
node_at w i = node_in w.floats w.words i

-- the step by which it was entered
unfoldable pub step_in : List Float → List ℕ → ℕ → Step
step_in floats words i = record {
  kind = kind_of (word_at words i kind_cell);
  polygon = word_at words i polygon_cell;
  first = word_at words i first_cell;
  second = word_at words i second_cell;
  interval = interval_in floats i;
}

abbrev pub step_at : Work → ℕ → Step
step_at w i = step_in w.floats w.words i

-- how many steps led to it
unfoldable pub depth_in : List ℕ → ℕ → ℕ
depth_in words i = word_at words i depth_cell

abbrev pub depth_at : Work → ℕ → ℕ
depth_at w i = depth_in w.words i

-- the number of its root's record
unfoldable pub number_in : List ℕ → ℕ → ℕ
number_in words i = word_at words i number_cell

abbrev pub number_at : Work → ℕ → ℕ
number_at w i = number_in w.words i

-- its f
abbrev pub f_at : Work → ℕ → Float
f_at w = column w.floats floats_per_place f_cell

-- ---- a node put at a place

unfoldable pub put_floats : List Float → ℕ → Node → Float → List Float
put_floats floats i node f =
    puts floats (i * floats_per_place) right_xcell
    (node.interval.0.x ∷ node.interval.0.y ∷ node.interval.1.x ∷ node.interval.1.y ∷ node.root.x ∷ node.root.y ∷ node.length ∷ f ∷ [])

unfoldable pub put_words : List ℕ → ℕ → ℕ → Node → ℕ → ℕ → ℕ → List ℕ
put_words words i kind node parent depth number =
    puts words (i * words_per_place) kind_cell (kind ∷ node.polygon ∷ node.first ∷ node.second ∷ parent ∷ node.points ∷ depth ∷ number ∷ [])

-- its kind, the node, its f, the place from which it was entered, how many steps led to it, and the number of its root's record
abbrev pub put_node : Work → ℕ → ℕ → Node → Float → ℕ → ℕ → ℕ → Work
put_node w i kind node f parent depth number = work_of (put_floats w.floats i node f) (put_words w.words i kind node parent depth number) w.queue

-- ---- distances on record

unfoldable pub record_root : List Float → ℕ → Point
record_root floats r = point_of (float_at floats r record_xcell) (float_at floats r record_ycell)

unfoldable pub record_distance : List Float → ℕ → Float
record_distance floats r = float_at floats r distance_cell

-- the first of the records whose root is this one by ==, and their number where there is none
unfoldable pub record_for : List Float → ℕ → Point → ℕ
record_for floats records root = first records (λ r. same_of (record_root floats r) root)

unfoldable pub record_put : List Float → ℕ → Point → Float → List Float
record_put floats r root distance = puts floats (r * floats_per_place) record_xcell (root.x ∷ root.y ∷ distance ∷ [])

abbrev pub put_record : Work → ℕ → Point → Float → Work
put_record w r root distance = work_of (record_put w.floats r root distance) w.words w.queue

unfoldable pub distance_put : List Float → ℕ → Float → List Float
distance_put floats r distance = set floats (r * floats_per_place + distance_cell) distance

abbrev pub put_distance : Work → ℕ → Float → Work
put_distance w r distance = work_of (distance_put w.floats r distance) w.words w.queue

-- ---- the queue

-- whether a place is queued
abbrev pub is_queued : ℕ → Work → ℕ → Bool
is_queued n w = queued_in n w.queue

-- "pop the node of least f = distance + heuristic, equal f by lower place": that place, or `none`
abbrev pub least_in : ℕ → Work → ℕ
least_in n w = least_of (f_at w) n (is_queued n w)

-- place i queued, or not, and the others as they were: the queue's words are those of the tree of these places, and the words behind it stay
abbrev pub put_queued : ℕ → Work → ℕ → Bool → Work
put_queued n w i b = work_of w.floats w.words (queue_of (f_at w) n (put (is_queued n w) i b) w.queue)

-- no place queued: every word of the tree is `none`
abbrev pub emptied : ℕ → Work → Work
emptied n w = work_of w.floats w.words (cleared (queue_words_per_place * n) w.queue)
