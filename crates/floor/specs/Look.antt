-- Document 01, "Numbers that come back": 2 to 9, "in table order, each over all records before the next", and what is told of each refusal. Assumes nothing.
use Rattle.std.specs.Prelude.{ℕ, not, ◌&&◌, cond, List, Result, Ok, Err, leb, ltb, length, get_or}
use Rattle.told.specs.declared.Told.{Told}
use Rattle.told.specs.declared.Told.TheVariants.{Alone, AtRecord}
use Rattle.counts.specs.Counts.{first}
use Rattle.floor.specs.declared.Refusal.{Refusal}
use Rattle.floor.specs.declared.Refusal.TheVariants.{VertexLength, PolygonLength, Vertex, Corners, Links, Question, StartOutside, GoalOutside}
use Rattle.floor.specs.declared.Inside.{Inside}
use Rattle.point.specs.declared.Point.{Point}
use Rattle.plan.specs.Plan.{most_vertices, most_polygons, laid}
use Rattle.stored.specs.Stored.{Floor, Polygon, vertex_bytes, polygon_bytes, vertex_count, polygon_count, origin}
use Rattle.stored.specs.Stored.{polygons_of, floor_of, question_of, polygon_in}
use Rattle.faults.specs.Tests.{length_right, point_right, corners_right, links_right, question_right}
use Rattle.edges.specs.Where.{polygon_of, plan_of}

-- ---- the lowest record at fault, or the number of records where there is none

unfoldable pub bad_vertex : List Point → ℕ
bad_vertex vertices = first (length vertices) (λ v. not (point_right (get_or vertices v origin)))

-- of a floor with so many vertices
unfoldable pub bad_corners : ℕ → List Polygon → ℕ
bad_corners count polygons = first (length polygons) (λ p. not (corners_right count (polygon_in polygons p)))

unfoldable pub bad_links : List Polygon → ℕ
bad_links polygons = first (length polygons) (λ p. not (links_right polygons p))

-- ---- the tests in table order

-- what is tested next, where nothing is at fault so far
abbrev pub and_then : {A : Type 0} → Result Unit Refusal → Result A Refusal → Result A Refusal
and_then (Ok tt) next = next
and_then (Err r) next = Err r

-- the record at fault, where it is one of so many
abbrev pub at_fault : (ℕ → Refusal) → ℕ → ℕ → Result Unit Refusal
at_fault fault bad count = cond (ltb bad count) (Err (fault bad)) (Ok tt)

-- 4: each vertex
unfoldable pub vertices_look_of : List Point → Result Unit Refusal
vertices_look_of vertices = at_fault Vertex (bad_vertex vertices) (length vertices)

-- 5: each polygon by itself, of a floor with so many vertices
unfoldable pub polygons_look_of : ℕ → List Polygon → Result Unit Refusal
polygons_look_of count polygons = at_fault Corners (bad_corners count polygons) (length polygons)

-- 4 and 5: each record by itself
unfoldable pub records_look_of : Floor → Result Unit Refusal
records_look_of f = and_then (vertices_look_of f.vertices) (polygons_look_of (length f.vertices) f.polygons)

-- 2 to 5
unfoldable pub corners_look_of : ℕ → List ℕ → List ℕ → Result Unit Refusal
corners_look_of slots vertices polygons =
    cond (not (length_right vertex_bytes most_vertices vertices)) (Err VertexLength)
    (cond (not (length_right (polygon_bytes slots) most_polygons polygons)) (Err PolygonLength)
    (records_look_of (floor_of slots vertices polygons)))

-- 6
unfoldable pub links_look_of : List Polygon → Result Unit Refusal
links_look_of polygons = at_fault Links (bad_links polygons) (length polygons)

-- 2 to 6: the floor
unfoldable pub floor_look_of : ℕ → List ℕ → List ℕ → Result Unit Refusal
floor_look_of slots vertices polygons = and_then (corners_look_of slots vertices polygons) (links_look_of (polygons_of slots polygons))

-- 7 to 9: the question, of a floor that was accepted
unfoldable pub ask_of : Floor → List ℕ → Result Inside Refusal
ask_of f question =
    let q = question_of question in
    cond (not (question_right question)) (Err Question)
    (cond (leb (length f.polygons) (polygon_of f q.start)) (Err StartOutside)
    (cond (leb (length f.polygons) (polygon_of f q.goal)) (Err GoalOutside)
    (Ok (record { start = polygon_of f q.start; goal = polygon_of f q.goal }))))

-- the floor, then the question
unfoldable pub look_of : ℕ → List ℕ → List ℕ → List ℕ → Result Inside Refusal
look_of slots vertices polygons question = and_then (floor_look_of slots vertices polygons) (ask_of (floor_of slots vertices polygons) question)

-- ---- the plan

-- laid where 2 and 3 find nothing
unfoldable pub laid_after : ℕ → List ℕ → List ℕ → List ℕ → List ℕ
laid_after slots vertices polygons before =
    cond (length_right vertex_bytes most_vertices vertices && length_right (polygon_bytes slots) most_polygons polygons)
    (laid slots (vertex_count vertices) (polygon_count slots polygons)) before

-- one plan of an accepted floor, another of one at fault
abbrev pub plan_if : Result Unit Refusal → List ℕ → List ℕ → List ℕ
plan_if (Ok tt) accepted faulty = accepted
plan_if (Err r) accepted faulty = faulty

-- an accepted floor's has its turn vertices
unfoldable pub plan_after : ℕ → List ℕ → List ℕ → List ℕ → List ℕ
plan_after slots vertices polygons before =
    plan_if (floor_look_of slots vertices polygons) (plan_of slots vertices polygons) (laid_after slots vertices polygons before)

-- ---- what is told: the table's number, and "4, 5, 6 .. also return the lowest record at fault"

unfoldable pub refusal_told : Refusal → Told
-- "vertex list length"
refusal_told VertexLength = Alone 2
-- "polygon list length"
refusal_told PolygonLength = Alone 3
-- "vertex coordinate"
refusal_told (Vertex v) = AtRecord 4 v
-- "corners"
refusal_told (Corners p) = AtRecord 5 p
-- "link, or neighbour slot"
refusal_told (Links p) = AtRecord 6 p
-- "question not 16 bytes, or start or goal coordinate"
refusal_told Question = Alone 7
-- "start in no polygon"
refusal_told StartOutside = Alone 8
-- "goal in no polygon"
refusal_told GoalOutside = Alone 9
