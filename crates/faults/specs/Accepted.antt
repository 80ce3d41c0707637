-- Document 01, "The floor, as stored": what an accepted floor is, in its words. The tests decide just this (proofs/Decided). Assumes nothing.
use Rattle.std.specs.Prelude.{ℕ, ◌≤◌, ◌<◌, ◌≡◌, true, List, ◌⊎◌, length, get_or}
use Rattle.std.specs.Float.Ieee.{le, neg}
use Rattle.point.specs.declared.Point.{Point}
use Rattle.point.specs.Point.{limit}
use Rattle.plan.specs.Plan.{vertex_count_in, polygon_count_in}
use Rattle.stored.specs.Stored.{Floor, Polygon, unused, origin, corner, neighbour, corner_count, corner_after, polygon, record_in}
use Rattle.stored.specs.Stored.{VerticesPlanned, PolygonsPlanned}

-- "Coordinates are finite, of magnitude at most 16,384."
pub record InRange (p : Point) : Type 0 where
  pub x_low : le (neg limit) p.x ≡ true
  pub x_high : le p.x limit ≡ true
  pub y_low : le (neg limit) p.y ≡ true
  pub y_high : le p.y limit ≡ true

-- "Unused slots hold 0xFFFFFFFF and stand after the used ones. 3 to 8 corners, distinct, each below the vertex count."
pub record Corners (count : ℕ) (p : Polygon) : Type 0 where
  pub three : 3 ≤ corner_count p
  pub rest : (i : ℕ) → corner_count p ≤ i → i < length p.corners → corner p i ≡ unused
  pub distinct : (i j : ℕ) → i < j → j < corner_count p → corner p i ≡ corner p j → ⊥
  pub listed : (i : ℕ) → i < corner_count p → corner p i < count

-- "if P names Q across edge (a,b), then Q is another listed polygon with an edge (b,a) that names P."
pub record Back (f : Floor) (p i : ℕ) (q : ℕ) : Type 0 where
  pub another : q ≡ p → ⊥
  pub listed : q < length f.polygons
  pub place : ℕ
  pub in_place : place < corner_count (polygon f q)
  pub starts : corner (polygon f q) place ≡ corner_after (polygon f p) i
  pub ends : corner_after (polygon f q) place ≡ corner (polygon f p) i
  pub names : neighbour (polygon f q) place ≡ p

-- "Neighbour i is the polygon across edge i, or 0xFFFFFFFF for a wall; unused corners have unused neighbours."
pub record Links (f : Floor) (p : ℕ) : Type 0 where
  pub linked : (i : ℕ) → i < corner_count (polygon f p) → (neighbour (polygon f p) i ≡ unused) ⊎ Back f p i (neighbour (polygon f p) i)
  pub rest : (i : ℕ) → corner_count (polygon f p) ≤ i → i < length (polygon f p).neighbours → neighbour (polygon f p) i ≡ unused

pub record Accepted (f : Floor) : Type 0 where
  pub vertices : (v : ℕ) → v < length f.vertices → InRange (get_or f.vertices v origin)
  pub corners : (p : ℕ) → p < length f.polygons → Corners (length f.vertices) (polygon f p)
  pub links : (p : ℕ) → p < length f.polygons → Links f p

-- ---- below the door

-- what a function on a polygon of a floor asks: the plan is of these lists, the polygon is listed, and its corners are right
pub record Listed (plan vertices polygons : List ℕ) (p : ℕ) : Type 0 where
  pub vertices_planned : VerticesPlanned plan vertices
  pub polygons_planned : PolygonsPlanned plan polygons
  pub listed : p < polygon_count_in plan
  pub corners : Corners (vertex_count_in plan) (record_in plan polygons p)
