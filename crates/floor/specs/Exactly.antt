-- Document 01, "Numbers that come back": the case of each answer to a floor and a question, in its words. "Each number is given exactly in its case" is
-- proved in proofs/Exact. "Tests .. run in table order, each over all records before the next": in each case all that is tested earlier is right.
-- Assumes nothing.
use Rattle.std.specs.Prelude.{ℕ, ◌/◌, ◌%◌, ◌≤◌, ◌<◌, ◌≡◌, List, Result, Ok, Err, length, get_or}
use Rattle.counts.specs.Counts.{Lowest, Least}
use Rattle.point.specs.declared.Point.{Point}
use Rattle.point.specs.declared.EdgeSide.TheVariants.{Right}
use Rattle.point.specs.Sides.{side_of}
use Rattle.floor.specs.declared.Refusal.TheVariants.{VertexLength, PolygonLength, Vertex, Corners as CornersFault, Links as LinksFault}
use Rattle.floor.specs.declared.Refusal.TheVariants.{Question, StartOutside, GoalOutside}
use Rattle.floor.specs.declared.Refusal.{Refusal}
use Rattle.floor.specs.declared.Inside.{Inside}
use Rattle.plan.specs.Plan.{most_vertices, most_polygons}
use Rattle.stored.specs.Stored.{Floor, vertex_bytes, polygon_bytes, origin, floor_of, question_of, polygon, edge, corner_count}
use Rattle.faults.specs.Accepted.{InRange, Corners, Links, Accepted}

-- ---- what is tested

-- "Records of one fixed size", from 1 to a limit
pub record Whole (size most : ℕ) (bytes : List ℕ) : Type 0 where
  pub whole : length bytes % size ≡ 0
  pub some : 1 ≤ length bytes / size
  pub few : length bytes / size ≤ most

-- "1 to 1,024 records", "1 to 512 records"
pub record Lists (slots : ℕ) (vertices polygons : List ℕ) : Type 0 where
  pub vertices_whole : Whole vertex_bytes most_vertices vertices
  pub polygons_whole : Whole (polygon_bytes slots) most_polygons polygons

-- "Coordinates are finite, of magnitude at most 16,384."
abbrev pub VertexRight : Floor → ℕ → Type 0
VertexRight f v = InRange (get_or f.vertices v origin)

abbrev pub CornersRight : Floor → ℕ → Type 0
CornersRight f p = Corners (length f.vertices) (polygon f p)

-- "A question is 16 bytes: start x, y, goal x, y, in the same range"
pub record Asked (question : List ℕ) : Type 0 where
  pub long : length question ≡ 16
  pub start : InRange (question_of question).start
  pub goal : InRange (question_of question).goal

-- "A polygon contains a point if the point is Right of none of its edges."
abbrev pub Contains : Floor → Point → ℕ → Type 0
Contains f point p = (i : ℕ) → i < corner_count (polygon f p) → ¬ (side_of point (edge f p i) ≡ Right)

abbrev pub InSome : Floor → Point → Type 0
InSome f point = (p : ℕ) × (p < length f.polygons) × Contains f point p

-- of each record
abbrev pub All : ℕ → (ℕ → Type 0) → Type 0
All n R = (k : ℕ) → k < n → R k

-- ---- the case of each answer

module _ (slots : ℕ) (vertices polygons : List ℕ) where
  abbrev floor : Floor
  floor = floor_of slots vertices polygons

  abbrev vertex_count : ℕ
  vertex_count = length floor.vertices

  abbrev polygon_count : ℕ
  polygon_count = length floor.polygons

  -- 2 to 6, of a floor alone. "4, 5, 6 .. also return the lowest record at fault". `Ok` is the answer, `Accepted` what 01 asks of a floor.
  abbrev pub FloorCase : Result Unit Refusal → Type 0
  FloorCase (Err VertexLength) = ¬ Whole vertex_bytes most_vertices vertices
  FloorCase (Err PolygonLength) = Whole vertex_bytes most_vertices vertices × ¬ Whole (polygon_bytes slots) most_polygons polygons
  FloorCase (Err (Vertex v)) = Lists slots vertices polygons × Lowest vertex_count (VertexRight floor) v
  FloorCase (Err (CornersFault p)) = Lists slots vertices polygons × All vertex_count (VertexRight floor) × Lowest polygon_count (CornersRight floor) p
  FloorCase (Err (LinksFault p)) =
      Lists slots vertices polygons × All vertex_count (VertexRight floor) × All polygon_count (CornersRight floor) × Lowest polygon_count (Links floor) p
  FloorCase (Ok tt) = Lists slots vertices polygons × Accepted floor
  -- 7 to 9 are no answers to a floor alone
  FloorCase (Err Question) = ⊥
  FloorCase (Err StartOutside) = ⊥
  FloorCase (Err GoalOutside) = ⊥

  -- 2 to 9. "The lowest-numbered one counts."
  module _ (question : List ℕ) where
    abbrev start : Point
    start = (question_of question).start

    abbrev goal : Point
    goal = (question_of question).goal

    abbrev pub Case : Result Inside Refusal → Type 0
    Case (Err VertexLength) = FloorCase (Err VertexLength)
    Case (Err PolygonLength) = FloorCase (Err PolygonLength)
    Case (Err (Vertex v)) = FloorCase (Err (Vertex v))
    Case (Err (CornersFault p)) = FloorCase (Err (CornersFault p))
    Case (Err (LinksFault p)) = FloorCase (Err (LinksFault p))
    Case (Err Question) = FloorCase (Ok tt) × ¬ Asked question
    Case (Err StartOutside) = FloorCase (Ok tt) × Asked question × ¬ InSome floor start
    Case (Err GoalOutside) = FloorCase (Ok tt) × Asked question × InSome floor start × ¬ InSome floor goal
    Case (Ok found) =
        FloorCase (Ok tt) × Asked question × Least polygon_count (Contains floor start) found.start × Least polygon_count (Contains floor goal) found.goal
