-- Document 01, "The floor, as stored": what the lent bytes of a floor and of a question stand for. Only the three readers of records know where a
-- record's bytes are; everything else speaks of a floor's vertices and polygons. Assumes nothing.
use Rattle.std.specs.Prelude.{ℕ, ◌+◌, ◌*◌, ◌/◌, ◌≤◌, ◌<◌, ◌≡◌, Bool, cond, List, [], ltb, eqb, length, get_or, Option, Some, None}
use Rattle.counts.specs.Counts.{first, table}
use Rattle.word.specs.Word.{word_at}
use Rattle.plan.specs.Plan.{most_vertices, most_polygons, most_slots, slots_in, vertex_count_in, polygon_count_in}
use Rattle.point.specs.declared.Point.{Point}
use Rattle.point.specs.declared.Segment.{Segment}
use Rattle.point.specs.Point.{zero, point_of, from_bits_of, plus_of}
use Rattle.stored.specs.declared.Question.{Question}

-- "Unused slots hold 0xFFFFFFFF", and it stands for a wall in a neighbour's slot: the number of no vertex and of no polygon.
abbrev pub unused : ℕ
unused = 0xFFFFFFFF

pub record Polygon : Type 0 where
  pub corners : List ℕ
  pub neighbours : List ℕ

pub record Floor : Type 0 where
  pub vertices : List Point
  pub polygons : List Polygon

-- ---- records: "of one fixed size, no header, little-endian"

-- "Vertex list: 8-byte records, x then y as f32."
abbrev pub vertex_bytes : ℕ
vertex_bytes = 8

unfoldable pub vertex_at : List ℕ → ℕ → Point
vertex_at bytes v = from_bits_of (word_at bytes (v * vertex_bytes)) (word_at bytes (v * vertex_bytes + 4))

-- "Polygon list: 64-byte records, eight u32 corners, then eight u32 neighbours." Eight is the number of slots of each kind, here any.
abbrev pub polygon_bytes : ℕ → ℕ
polygon_bytes slots = slots * 8

unfoldable pub slot_at : ℕ → List ℕ → ℕ → ℕ → ℕ
slot_at slots bytes p i = word_at bytes (p * polygon_bytes slots + i * 4)

unfoldable pub polygon_at : ℕ → List ℕ → ℕ → Polygon
polygon_at slots bytes p = record {
  corners = table slots (slot_at slots bytes p);
  neighbours = table slots (λ i. slot_at slots bytes p (slots + i));
}

-- "A question is 16 bytes: start x, y, goal x, y, .. used as given."
unfoldable pub question_of : List ℕ → Question
question_of bytes = record { start = from_bits_of (word_at bytes 0) (word_at bytes 4); goal = from_bits_of (word_at bytes 8) (word_at bytes 12) }

-- how many records of a list are whole
abbrev pub vertex_count : List ℕ → ℕ
vertex_count bytes = length bytes / vertex_bytes

abbrev pub polygon_count : ℕ → List ℕ → ℕ
polygon_count slots bytes = length bytes / polygon_bytes slots

-- what a list of bytes stands for: as many records as are whole
unfoldable pub vertices_of : List ℕ → List Point
vertices_of bytes = table (vertex_count bytes) (vertex_at bytes)

unfoldable pub polygons_of : ℕ → List ℕ → List Polygon
polygons_of slots bytes = table (polygon_count slots bytes) (polygon_at slots bytes)

-- the floor that two lists of bytes stand for
abbrev pub floor_of : ℕ → List ℕ → List ℕ → Floor
floor_of slots vertices polygons = record { vertices = vertices_of vertices; polygons = polygons_of slots polygons }

-- ---- a polygon

unfoldable pub corner : Polygon → ℕ → ℕ
corner p i = get_or p.corners i unused

unfoldable pub neighbour : Polygon → ℕ → ℕ
neighbour p i = get_or p.neighbours i unused

-- the polygon across edge i, or none at a wall
abbrev pub across : Polygon → ℕ → Option ℕ
across p i = cond (eqb (neighbour p i) unused) None (Some (neighbour p i))

-- "Unused slots .. stand after the used ones": the corners are those before the first unused one.
unfoldable pub corner_count : Polygon → ℕ
corner_count p = first (length p.corners) (λ i. eqb (corner p i) unused)

-- "Edge i runs from corner i to corner i+1, cyclically": behind the last corner comes the first.
unfoldable pub corner_after : Polygon → ℕ → ℕ
corner_after p i = cond (eqb (corner p (i + 1)) unused) (corner p 0) (corner p (i + 1))

-- ---- looked up in a list, and in a floor

unfoldable pub polygon_in : List Polygon → ℕ → Polygon
polygon_in polygons p = get_or polygons p (record { corners = []; neighbours = [] })

abbrev pub polygon : Floor → ℕ → Polygon
polygon f p = polygon_in f.polygons p

unfoldable pub is_listed : List Polygon → ℕ → Bool
is_listed polygons p = ltb p (length polygons)

abbrev pub origin : Point
origin = point_of zero zero

-- "A vertex is used as its coordinates plus 0.0 .. so −0.0 becomes +0.0."
unfoldable pub vertex_in : List Point → ℕ → Point
vertex_in vertices v = plus_of (get_or vertices v origin) origin

abbrev pub vertex : Floor → ℕ → Point
vertex f v = vertex_in f.vertices v

-- edge i of a polygon, from corner to corner
abbrev pub edge_of : List Point → Polygon → ℕ → Segment
edge_of vertices p i = (vertex_in vertices (corner p i), vertex_in vertices (corner_after p i))

-- edge i of polygon p
unfoldable pub edge : Floor → ℕ → ℕ → Segment
edge f p i = edge_of f.vertices (polygon f p) i

-- ---- by a plan, which says how many slots a record has

abbrev pub record_in : List ℕ → List ℕ → ℕ → Polygon
record_in plan bytes p = polygon_at (slots_in plan) bytes p

abbrev pub polygons_in : List ℕ → List ℕ → List Polygon
polygons_in plan bytes = polygons_of (slots_in plan) bytes

abbrev pub floor_in : List ℕ → List ℕ → List ℕ → Floor
floor_in plan vertices polygons = floor_of (slots_in plan) vertices polygons

-- the record of polygon p lies in the list
abbrev pub Lies : List ℕ → List ℕ → ℕ → Type 0
Lies plan bytes p = (slots_in plan ≤ most_slots) × (p < polygon_count (slots_in plan) bytes)

-- ---- a plan of these lists, whose lengths the tests 2 and 3 have found right

pub record VerticesPlanned (plan vertices : List ℕ) : Type 0 where
  pub counted : vertex_count_in plan ≡ vertex_count vertices
  pub some : 1 ≤ vertex_count vertices
  pub few : vertex_count vertices ≤ most_vertices

pub record PolygonsPlanned (plan polygons : List ℕ) : Type 0 where
  pub some_slots : 0 < slots_in plan
  pub few_slots : slots_in plan ≤ most_slots
  pub counted : polygon_count_in plan ≡ polygon_count (slots_in plan) polygons
  pub few : polygon_count (slots_in plan) polygons ≤ most_polygons
