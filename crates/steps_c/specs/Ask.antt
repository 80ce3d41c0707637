-- What C asks of the steps, and the numbers and words that come back. Rests on `steps_from`, which is document 01's "A permitted step". Assumes nothing.
use Rattle.std.specs.Prelude.{ℕ, Bool, true, false, ◌&&◌, cond, List, Option, Some, None, Result, Ok, Err, eqb, ltb, length, get_or}
use Rattle.point.specs.Point.{zero, from_bits_of}
use Rattle.told.specs.Told.{number_of}
use Rattle.floor.specs.declared.Refusal.{Refusal}
use Rattle.stored.specs.Stored.{Floor, Polygon, floor_of, corner_count, polygon_in}
use Rattle.floor.specs.Look.{floor_look_of, refusal_told}
use Rattle.route.specs.declared.Step.{Step}
use Rattle.route.specs.Record.{step_words}
use Rattle.steps.specs.declared.Node.{Node}
use Rattle.steps.specs.Steps.{place_of, steps_from}
use Rattle.steps_c.specs.declared.Unasked.{Unasked}
use Rattle.steps_c.specs.declared.Unasked.TheVariants.{Nowhere, Refused}
use Rattle.steps_c.specs.Kth.{kth}

-- ---- what is asked

-- 1 for the seed, polygon, the entry edge's first and second vertex, then bit patterns: the interval's right x, y and left x, y, the root's x, y
unfoldable pub node_of : List ℕ → Node
node_of words = record {
  seed = eqb (get_or words 0 0) 1;
  left = get_or words 1 0;
  polygon = get_or words 1 0;
  first = get_or words 2 0;
  second = get_or words 3 0;
  interval = (from_bits_of (get_or words 4 0) (get_or words 5 0), from_bits_of (get_or words 6 0) (get_or words 7 0));
  root = from_bits_of (get_or words 8 0) (get_or words 9 0);
  length = zero;
  points = 0;
}

-- the edge that the node was entered by is one of the polygon's; the seed was entered by none
unfoldable pub is_entered : Polygon → Node → Bool
is_entered q node = cond node.seed true (ltb (place_of q (corner_count q) node.second) (corner_count q))

-- the node stands on a floor of so many vertices
unfoldable pub is_on : ℕ → List Polygon → Node → Bool
is_on count polygons node =
    cond (ltb node.polygon (length polygons))
    (ltb node.first count && (ltb node.second count && is_entered (polygon_in polygons node.polygon) node))
    false

-- ---- what comes of it

-- the step, or none where the node has no step with this number; or why it can't be asked for
abbrev pub Answer : Type 0
Answer = Result (Option Step) Unasked

-- step k out of the node, on a floor that was accepted
unfoldable pub answer_on : Floor → ℕ → Node → ℕ → Answer
answer_on f goal node k = cond (is_on (length f.vertices) f.polygons node) (Ok (kth (steps_from f goal node) k)) (Err Nowhere)

abbrev pub answer_if : Result Unit Refusal → Answer → Answer
answer_if (Ok u) answer = answer
answer_if (Err r) answer = Err (Refused r)

unfoldable pub answer_of : List ℕ → List ℕ → ℕ → Node → ℕ → Answer
answer_of vertices polygons goal node k = answer_if (floor_look_of 8 vertices polygons) (answer_on (floor_of 8 vertices polygons) goal node k)

-- ---- numbers and words

-- 2 to 6 are document 01's, of a floor that is refused; 100 is none of document 01's
unfoldable pub answer_number : Answer → ℕ
answer_number (Ok (Some step)) = 1
answer_number (Ok None) = 0
answer_number (Err Nowhere) = 100
answer_number (Err (Refused r)) = number_of (refusal_told r)

-- the words of the step's record, or what stood there
unfoldable pub answer_written : Answer → List ℕ → List ℕ
answer_written (Ok (Some step)) before = step_words step
answer_written (Ok None) before = before
answer_written (Err u) before = before
