-- The room for each file is a byte longer than the longest file that is allowed. Assumes nothing.
use Rattle.std.specs.Prelude.{◌≡◌, ◌+◌, ◌*◌, refl}
use Rattle.console.specs.declared.TheConstants.{VERTICES, POLYGONS, QUESTION, ROUTE}

-- 1,024 vertices of two words
pub room_for_vertices : VERTICES ≡ 1024 * 8 + 1
room_for_vertices = refl

-- 512 polygons of eight corners and eight neighbours, a word each
pub room_for_polygons : POLYGONS ≡ 512 * 64 + 1
room_for_polygons = refl

-- a start and a goal
pub room_for_question : QUESTION ≡ 16 + 1
room_for_question = refl

-- 4,097 records
pub room_for_route : ROUTE ≡ 4097 * 32 + 1
room_for_route = refl
