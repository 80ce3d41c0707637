-- Document 01, "A permitted step": which polygon a point is in, and which vertices turn. Assumes nothing.
use Rattle.std.specs.Prelude.{ℕ, zero, suc, ◌<◌, Bool, not, ◌&&◌, ◌||◌, cond, List, eqb, length}
use Rattle.counts.specs.Counts.{every, some, first}
use Rattle.point.specs.declared.Point.{Point}
use Rattle.point.specs.declared.EdgeSide.TheVariants.{Right}
use Rattle.point.specs.Sides.{side_of, same_side_of}
use Rattle.plan.specs.Plan.{marked, laid}
use Rattle.stored.specs.Stored.{Floor, Polygon, unused, vertex_count, polygon_count, polygons_of}
use Rattle.stored.specs.Stored.{corner, neighbour, corner_count, corner_after, polygon_in, polygon, edge_of}

-- edge i is one of the polygon's, and both its ends are among so many vertices
abbrev pub HasEdge : ℕ → Polygon → ℕ → Type 0
HasEdge count q i = (i < corner_count q) × (corner q i < count) × (corner_after q i < count)

-- "A polygon contains a point if the point is Right of none of its edges."
abbrev pub contains_in : List Point → Polygon → Point → Bool
contains_in vertices q point = every (corner_count q) (λ i. not (same_side_of (side_of point (edge_of vertices q i)) Right))

unfoldable pub contains : Floor → Point → ℕ → Bool
contains f point p = contains_in f.vertices (polygon f p) point

-- "The lowest-numbered one counts." The number of polygons where none contains it.
unfoldable pub polygon_of : Floor → Point → ℕ
polygon_of f point = first (length f.polygons) (contains f point)

-- "A turn vertex is one on a wall edge": an end, by number, of a wall edge of a listed polygon.
unfoldable pub turns_at : List Polygon → ℕ → ℕ → Bool
turns_at polygons v p =
    let q = polygon_in polygons p in
    some (corner_count q) (λ i. eqb (neighbour q i) unused && (eqb (corner q i) v || eqb (corner_after q i) v))

unfoldable pub is_turn : Floor → ℕ → Bool
is_turn f v = some (length f.polygons) (turns_at f.polygons v)

-- ---- the turn vertices, marked once in the plan

-- both ends of edge i, if it is a wall
unfoldable pub mark_edge : Polygon → ℕ → List ℕ → List ℕ
mark_edge q i plan = cond (eqb (neighbour q i) unused) (marked (marked plan (corner q i)) (corner_after q i)) plan

-- the first n edges of a polygon
unfoldable pub mark_edges : Polygon → ℕ → List ℕ → List ℕ
mark_edges q zero plan = plan
mark_edges q (suc n) plan = mark_edge q n (mark_edges q n plan)

-- the first n polygons of a floor
unfoldable pub mark_polygons : List Polygon → ℕ → List ℕ → List ℕ
mark_polygons polygons zero plan = plan
mark_polygons polygons (suc n) plan = mark_edges (polygon_in polygons n) (corner_count (polygon_in polygons n)) (mark_polygons polygons n plan)

-- the plan with the turn vertices of these polygons
unfoldable pub turns_marked : List Polygon → List ℕ → List ℕ
turns_marked polygons plan = mark_polygons polygons (length polygons) plan

-- the plan of a floor of one layer
unfoldable pub plan_of : ℕ → List ℕ → List ℕ → List ℕ
plan_of slots vertices polygons = turns_marked (polygons_of slots polygons) (laid slots (vertex_count vertices) (polygon_count slots polygons))
