-- The plan of a floor: what a look learns of it, in words that are lent. Which floor a plan is of is said where floors are known (specs/Ground of `edges`).
-- Definitions only. Assumes nothing.
use Rattle.std.specs.Prelude.{ℕ, ◌+◌, ◌/◌, ◌%◌, ◌^◌, Bool, List, eqb, get_or, set, replicate}
use Rattle.std.specs.Int.Bits.{bit_or}

-- ---- how much a floor may have

-- "1 to 1,024 records", "1 to 512 records"
abbrev pub most_vertices : ℕ
most_vertices = 1024

abbrev pub most_polygons : ℕ
most_polygons = 512

-- slots of a polygon's record, of each kind
abbrev pub most_slots : ℕ
most_slots = 16

-- ---- where a word stands

-- the number of slots that a polygon's record has for corners, and the number of layers
abbrev slots_at : ℕ
slots_at = 0

abbrev layers_at : ℕ
layers_at = 1

-- of the layer: its first vertex, how many vertices it has, its first polygon, how many polygons it has, and its offset, x and y as bit patterns. A floor of
-- one layer begins with vertex 0 and polygon 0 and is not moved.
abbrev vertices_at : ℕ
vertices_at = 3

abbrev polygons_at : ℕ
polygons_at = 5

-- a bit for each of the 1,024 numbers that a vertex may have
abbrev marks_at : ℕ
marks_at = 8

abbrev pub plan_words : ℕ
plan_words = 40

-- ---- what they say

unfoldable pub slots_in : List ℕ → ℕ
slots_in plan = get_or plan slots_at 0

unfoldable pub vertex_count_in : List ℕ → ℕ
vertex_count_in plan = get_or plan vertices_at 0

unfoldable pub polygon_count_in : List ℕ → ℕ
polygon_count_in plan = get_or plan polygons_at 0

-- bit v % 32 of word v / 32 of the marks
unfoldable pub is_marked : List ℕ → ℕ → Bool
is_marked plan v = eqb (get_or plan (marks_at + v / 32) 0 / 2 ^ (v % 32) % 2) 1

-- ---- how they are laid

unfoldable pub marked : List ℕ → ℕ → List ℕ
marked plan v = set plan (marks_at + v / 32) (bit_or (get_or plan (marks_at + v / 32) 0) (2 ^ (v % 32)))

-- one layer, no vertex marked
unfoldable pub laid : ℕ → ℕ → ℕ → List ℕ
laid slots vertices polygons =
    set (set (set (set (replicate plan_words 0) slots_at slots) layers_at 1) vertices_at vertices) polygons_at polygons
