-- Whether a record is a step, word by word, and whether it is one of a node's. proofs/Seeking says that it is the step over a part exactly where it is
-- document 01's, and proofs/Reading that a record is one of the steps exactly where its bytes are. Assumes nothing.
use Rattle.std.specs.Prelude.{ℕ, Bool, false, ◌&&◌, ◌||◌, cond, Option, Some, None, List, [], ◌∷◌, eqb}
use Rattle.point.specs.declared.Point.{Point}
use Rattle.point.specs.declared.Segment.{Segment}
use Rattle.cone.specs.Landing.{lands_on_of}
use Rattle.walk.specs.declared.Part.{Part}
use Rattle.stored.specs.Stored.{Polygon, unused, corner, neighbour, corner_after, vertex_in}
use Rattle.route.specs.declared.Step.{Step}
use Rattle.route.specs.Step.{kind_number}
use Rattle.records.specs.Records.{kind_word, polygon_word, first_word, second_word, interval_stands}
use Rattle.steps.specs.declared.Node.{Node}
use Rattle.steps.specs.Steps.{is_interval, is_allowed, clipped}

-- ---- a step

-- "Step: kind 2, 3 or 4, polygon entered, the edge's two vertices, interval right x, y, left x, y."
unfoldable pub is_step_at : Step → List ℕ → ℕ → Bool
is_step_at s file i =
    (eqb (first_word file i) s.first && (eqb (second_word file i) s.second && eqb (polygon_word file i) s.polygon))
    && (eqb (kind_word file i) (kind_number s.kind) && interval_stands s.interval file i)

-- one of the steps of a list
unfoldable pub is_among : List Step → List ℕ → ℕ → Bool
is_among [] file i = false
is_among (s ∷ steps) file i = is_step_at s file i || is_among steps file i

-- ---- the step over a part of an edge, in the order in which the code asks

-- what the record says of the edge, whichever part of it is stepped over: an edge of the polygon q that is no wall, its vertices and its neighbour. No
-- other edge of a polygon begins with its first vertex, so one edge at most is gone into further.
unfoldable pub edge_stands : Polygon → ℕ → List ℕ → ℕ → Bool
edge_stands q e file i =
    cond (eqb (neighbour q e) unused) false
    (eqb (first_word file i) (corner q e) && (eqb (second_word file i) (corner_after q e) && eqb (polygon_word file i) (neighbour q e)))

-- what is seen is an interval to step over, and the record's
unfoldable pub ends_at : Option Segment → List ℕ → ℕ → Bool
ends_at (Some interval) file i = is_interval interval && interval_stands interval file i
ends_at None file i = false

-- "lands on its entry edge's first (second) vertex and that is a turn vertex"
unfoldable pub turns_at : List Point → (ℕ → Bool) → ℕ → Point → Point → Bool
turns_at vertices turns v end root = lands_on_of end (vertex_in vertices v) root && turns v

-- what the record says of the part: its kind, which has to be allowed, and what is seen of it
unfoldable pub part_stands : List Point → (ℕ → Bool) → Node → Part → List ℕ → ℕ → Bool
part_stands vertices turns node part file i =
    eqb (kind_word file i) (kind_number part.kind)
    && (is_allowed vertices turns node part.kind && ends_at (clipped vertices node part.kind part.interval) file i)
