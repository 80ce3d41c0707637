-- Of a polygon whose corners are right: every index that is read is inside its list, and an edge is made of the stored vertices. Assumes nothing.
use Prim.Native.Nat.{ℕ, ◌+◌, ◌/◌, ◌≤◌, ◌<◌}
use native.Mathlib.Nat.{lt_of_lt_of_le}
use native.Mathlib.Omega.{arith}
use native.Mathlib.Decide.{dec_lt}
use mathlib.Core.Path.{◌≡◌, refl, sym, ◌∙◌, subst}
use mathlib.Core.Bool.{Bool, true, false, cond}
use mathlib.Core.List.{List}
use borrow.Author.Tests.{eqb-false}
use lib.Dec.{eqb}
use lib.ListN.{length}
use Rattle.point.specs.Point.{plus_of}
use Rattle.plan.specs.Plan.{vertex_count_in, polygon_count_in}
use Rattle.stored.specs.Stored.{Polygon, unused, origin, vertex_at, vertices_of, record_in, floor_in, corner, corner_count, corner_after, polygon, edge_of}
use Rattle.faults.specs.Accepted.{Corners, Listed}
use Rattle.edges.specs.Where.{HasEdge}
use Rattle.edges.specs.Ground.{Ground}
use Rattle.stored.proofs.Records.{corner_beyond, count_slots, vertex_count_lem, vertex_used, polygon_read, polygons_counted}

pub slot_inside : (q : Polygon) (i : ℕ) → i < corner_count q → i < length q.corners
slot_inside q i l = lt_of_lt_of_le l (count_slots q)

-- ---- by its corners

module _ {n : ℕ} {q : Polygon} (h : Corners n q) where
  pub corner_below : (i : ℕ) → i < corner_count q → corner q i < n
  corner_below i l = h.listed i l

  -- behind the last corner the slots are unused, inside the record and past it
  behind_unused : (i : ℕ) → corner_count q ≤ i → corner q i ≡ unused
  behind_unused i l = go (dec_lt i (length q.corners))
    where
      go : Dec (i < length q.corners) → corner q i ≡ unused
      go (yes b) = h.rest i l b
      go (no b) = corner_beyond q i (omega arith)

  pub after_below : (i : ℕ) → i < corner_count q → corner_after q i < n
  unfolding corner_after
  after_below i l = go (eqb (corner q (i + 1)) unused) refl (dec_lt (i + 1) (corner_count q))
    where
      go : (b : Bool) → eqb (corner q (i + 1)) unused ≡ b → Dec (i + 1 < corner_count q) → cond b (corner q 0) (corner q (i + 1)) < n
      go true e d = corner_below 0 (omega (arith, h.three))
      go false e (yes d) = corner_below (i + 1) d
      go false e (no d) = absurd (eqb-false (corner q (i + 1)) unused e (behind_unused (i + 1) (omega arith)))

  -- both ends of an edge are among the vertices
  pub has_edge : (i : ℕ) → i < corner_count q → HasEdge n q i
  has_edge i l = (l, corner_below i l, after_below i l)

  -- and among more
  pub corners_among : (m : ℕ) → n ≤ m → Corners m q
  corners_among m few = record { three = h.three; rest = h.rest; distinct = h.distinct; listed = λ i l. lt_of_lt_of_le (h.listed i l) few }

-- its ends are stored vertices, as they are used
pub edge_stored : (vs : List ℕ) (q : Polygon) (i : ℕ) → corner q i < length vs / 8 → corner_after q i < length vs / 8
    → edge_of (vertices_of vs) q i ≡ (plus_of (vertex_at vs (corner q i)) origin, plus_of (vertex_at vs (corner_after q i)) origin)
edge_stored vs q i start end = rw (vertex_used vs (corner q i) start, vertex_used vs (corner_after q i) end)

-- ---- on an accepted floor

module _ {plan vs ps : List ℕ} (g : Ground plan vs ps) where
  pub vertices_counted : length (floor_in plan vs ps).vertices ≡ vertex_count_in plan
  vertices_counted = vertex_count_lem vs ∙ sym g.vertices_planned.counted

  pub listed_of : (p : ℕ) → p < polygon_count_in plan → Listed plan vs ps p
  listed_of p h = record {
    vertices_planned = g.vertices_planned;
    polygons_planned = g.polygons_planned;
    listed = h;
    corners =
        rw (polygon_read g.polygons_planned p h, vertices_counted)
        at (g.accepted.corners p (subst (λ (n : ℕ). p < n) (sym (polygons_counted g.polygons_planned)) h));
  }

  -- of a polygon of the floor, as it is read
  pub corners_of : (p : ℕ) → p < polygon_count_in plan → {q : Polygon} → q ≡ polygon (floor_in plan vs ps) p → Corners (length vs / 8) q
  corners_of p h e =
      rw (e, ← vertex_count_lem vs) (g.accepted.corners p (subst (λ (n : ℕ). p < n) (sym (polygons_counted g.polygons_planned)) h))

module _ {plan vs ps : List ℕ} {p : ℕ} (h : Listed plan vs ps p) where
  -- what `edge` and `contains` ask
  pub listed_corners : Corners (length vs / 8) (record_in plan ps p)
  listed_corners = rw (← h.vertices_planned.counted) h.corners

  -- both ends of an edge are in the vertex list
  pub corner_stored : (i : ℕ) → i < corner_count (record_in plan ps p) → corner (record_in plan ps p) i < length vs / 8
  corner_stored i l = corner_below listed_corners i l

  pub after_stored : (i : ℕ) → i < corner_count (record_in plan ps p) → corner_after (record_in plan ps p) i < length vs / 8
  after_stored i l = after_below listed_corners i l
