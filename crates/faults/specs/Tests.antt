-- Document 01, "Numbers that come back": the tests 2 to 7, each of one list, one record or the question. A test is true where there is nothing to refuse.
-- Accepted says in 01's words what they decide. Assumes nothing.
use Rattle.std.specs.Prelude.{ℕ, ◌+◌, ◌-◌, ◌/◌, ◌%◌, Bool, not, ◌&&◌, ◌||◌, List, leb, ltb, eqb, length, Float}
use Rattle.std.specs.Float.Ieee.{neg, le}
use Rattle.counts.specs.Counts.{every, some}
use Rattle.point.specs.declared.Point.{Point}
use Rattle.point.specs.Point.{limit}
use Rattle.stored.specs.Stored.{Polygon, question_of, unused, corner, neighbour, corner_count, corner_after, polygon_in, is_listed}

-- ---- 2 and 3: the lists' lengths

-- whole records of a size, from 1 to a limit
unfoldable pub length_right : ℕ → ℕ → List ℕ → Bool
length_right size most bytes = eqb (length bytes % size) 0 && (leb 1 (length bytes / size) && leb (length bytes / size) most)

-- ---- 4: a vertex's coordinates

-- "Coordinates are finite, of magnitude at most 16,384."
unfoldable pub coordinate_right : Float → Bool
coordinate_right x = le (neg limit) x && le x limit

unfoldable pub point_right : Point → Bool
point_right p = coordinate_right p.x && coordinate_right p.y

-- ---- 5: a polygon's corners

-- "Unused slots .. stand after the used ones": every slot behind the corners is one.
unfoldable pub rest_unused : (ℕ → ℕ) → ℕ → ℕ → Bool
rest_unused slot slots n = every (slots - n) (λ k. eqb (slot (n + k)) unused)

-- "distinct", by number
unfoldable pub unlike_earlier : Polygon → ℕ → Bool
unlike_earlier p j = every j (λ i. not (eqb (corner p i) (corner p j)))

unfoldable pub distinct : Polygon → Bool
distinct p = every (corner_count p) (unlike_earlier p)

-- "each below the vertex count"
unfoldable pub corners_listed : ℕ → Polygon → Bool
corners_listed count p = every (corner_count p) (λ i. ltb (corner p i) count)

-- "3 to 8 corners, distinct, each below the vertex count."
unfoldable pub corners_right : ℕ → Polygon → Bool
corners_right count p =
    leb 3 (corner_count p)
    && (rest_unused (corner p) (length p.corners) (corner_count p) && (distinct p && corners_listed count p))

-- ---- 6: a polygon's links

-- "Q is another listed polygon with an edge (b,a) that names P": one of Q's edges runs from b to a and has P across it
unfoldable pub is_back : Polygon → ℕ → ℕ → ℕ → ℕ → Bool
is_back q p a b j = eqb (corner q j) b && (eqb (corner_after q j) a && eqb (neighbour q j) p)

unfoldable pub names_back : Polygon → ℕ → ℕ → ℕ → Bool
names_back q p a b = some (corner_count q) (is_back q p a b)

-- "if P names Q across edge (a,b), then .." : across edge i stands a wall, or such a Q
unfoldable pub link_right : List Polygon → ℕ → ℕ → Bool
link_right polygons p i =
    let here = polygon_in polygons p in
    let q = neighbour here i in
    eqb q unused || (not (eqb q p) && (is_listed polygons q && names_back (polygon_in polygons q) p (corner here i) (corner_after here i)))

-- "unused corners have unused neighbours."
unfoldable pub links_right : List Polygon → ℕ → Bool
links_right polygons p =
    let here = polygon_in polygons p in
    every (corner_count here) (link_right polygons p) && rest_unused (neighbour here) (length here.neighbours) (corner_count here)

-- ---- 7: the question

-- "A question is 16 bytes: start x, y, goal x, y, in the same range"
unfoldable pub question_right : List ℕ → Bool
question_right bytes = eqb (length bytes) 16 && (point_right (question_of bytes).start && point_right (question_of bytes).goal)
