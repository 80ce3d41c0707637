-- The marks are document 01's turn vertices: a set bit at each vertex on a wall edge, and at no other. And marking changes nothing else in a plan.
-- Assumes nothing.
use Prim.Native.Nat.{ℕ, zero, suc, ◌+◌, ◌*◌, ◌/◌, ◌<◌, ◌≤◌}
use native.Mathlib.Nat.{lt_of_lt_of_le}
use native.Mathlib.Omega.{arith}
use mathlib.Core.Path.{◌≡◌, refl, sym, ap, ◌∙◌, subst}
use mathlib.Core.Bool.{Bool, true, false, ◌&&◌, ◌||◌, cond}
use mathlib.Core.List.{List}
use lib.Dec.{eqb}
use lib.ListN.{length}
use Rattle.counts.specs.Counts.{some}
use Rattle.plan.specs.Plan.{slots_in, vertex_count_in, polygon_count_in, is_marked, marked, laid}
use Rattle.plan.proofs.Laws.{laid_slots, laid_vertices, laid_polygons, laid_length, laid_unmarked, marked_slots, marked_vertices, marked_polygons}
use Rattle.plan.proofs.Laws.{marked_length, marked_at}
use Rattle.stored.specs.Stored.{Polygon, unused, corner, neighbour, corner_count, corner_after, polygon_in, polygons_of, floor_of}
use Rattle.stored.specs.Stored.{PolygonsPlanned}
use Rattle.faults.specs.Accepted.{Accepted}
use Rattle.edges.specs.Where.{turns_at, is_turn, mark_edge, mark_edges, mark_polygons, turns_marked, plan_of}
use Rattle.edges.specs.Ground.{Ground}

-- ---- what marking a vertex leaves, marking all of them leaves

module _ {A : Type 0} (read : List ℕ → A) (stays : (plan : List ℕ) (v : ℕ) → read (marked plan v) ≡ read plan) where
  edge_leaves : (q : Polygon) (i : ℕ) (plan : List ℕ) → read (mark_edge q i plan) ≡ read plan
  unfolding mark_edge
  edge_leaves q i plan = go (eqb (neighbour q i) unused)
    where
      go : (b : Bool) → read (cond b (marked (marked plan (corner q i)) (corner_after q i)) plan) ≡ read plan
      go true = stays (marked plan (corner q i)) (corner_after q i) ∙ stays plan (corner q i)
      go false = refl

  edges_leave : (q : Polygon) (n : ℕ) (plan : List ℕ) → read (mark_edges q n plan) ≡ read plan
  unfolding mark_edges
  edges_leave q zero plan = refl
  edges_leave q (suc n) plan = edge_leaves q n (mark_edges q n plan) ∙ edges_leave q n plan

  polygons_leave : (polygons : List Polygon) (n : ℕ) (plan : List ℕ) → read (mark_polygons polygons n plan) ≡ read plan
  unfolding mark_polygons
  polygons_leave polygons zero plan = refl
  polygons_leave polygons (suc n) plan =
      edges_leave (polygon_in polygons n) (corner_count (polygon_in polygons n)) (mark_polygons polygons n plan) ∙ polygons_leave polygons n plan

  marks_leave : (polygons : List Polygon) (plan : List ℕ) → read (turns_marked polygons plan) ≡ read plan
  unfolding turns_marked
  marks_leave polygons plan = polygons_leave polygons (length polygons) plan

-- ---- which vertices are marked

-- true where one of two says so, else what was there
either : (a b x : Bool) → cond b true (cond a true x) ≡ cond (a || b) true x
either true true x = refl
either true false x = refl
either false true x = refl
either false false x = refl

itself : (b : Bool) → cond b true false ≡ b
itself true = refl
itself false = refl

-- an end of edge i, which is a wall, is v
abbrev wall_at : Polygon → ℕ → ℕ → Bool
wall_at q v i = eqb (neighbour q i) unused && (eqb (corner q i) v || eqb (corner_after q i) v)

module _ (v : ℕ) where
  -- there is a word for it
  abbrev Inside : List ℕ → Type 0
  Inside plan = 8 + v / 32 < length plan

  still_inside : (plan after : List ℕ) → length after ≡ length plan → Inside plan → Inside after
  still_inside plan after e h = subst (λ (n : ℕ). 8 + v / 32 < n) (sym e) h

  edge_marked : (q : Polygon) (i : ℕ) (plan : List ℕ) → Inside plan → is_marked (mark_edge q i plan) v ≡ cond (wall_at q v i) true (is_marked plan v)
  unfolding mark_edge
  edge_marked q i plan h = go (eqb (neighbour q i) unused)
    where
      go : (b : Bool) → is_marked (cond b (marked (marked plan (corner q i)) (corner_after q i)) plan) v
          ≡ cond (b && (eqb (corner q i) v || eqb (corner_after q i) v)) true (is_marked plan v)
      go true =
          marked_at (marked plan (corner q i)) (corner_after q i) v (still_inside plan (marked plan (corner q i)) (marked_length plan (corner q i)) h)
          ∙ ap (λ (x : Bool). cond (eqb (corner_after q i) v) true x) (marked_at plan (corner q i) v h)
          ∙ either (eqb (corner q i) v) (eqb (corner_after q i) v) (is_marked plan v)
      go false = refl

  edges_marked : (q : Polygon) (n : ℕ) (plan : List ℕ) → Inside plan
      → is_marked (mark_edges q n plan) v ≡ cond (some n (wall_at q v)) true (is_marked plan v)
  unfolding mark_edges some
  edges_marked q zero plan h = refl
  edges_marked q (suc n) plan h =
      edge_marked q n (mark_edges q n plan) (still_inside plan (mark_edges q n plan) (edges_leave length marked_length q n plan) h)
      ∙ ap (λ (x : Bool). cond (wall_at q v n) true x) (edges_marked q n plan h)
      ∙ either (some n (wall_at q v)) (wall_at q v n) (is_marked plan v)

  polygons_marked : (polygons : List Polygon) (n : ℕ) (plan : List ℕ) → Inside plan
      → is_marked (mark_polygons polygons n plan) v ≡ cond (some n (turns_at polygons v)) true (is_marked plan v)
  unfolding mark_polygons some turns_at
  polygons_marked polygons zero plan h = refl
  polygons_marked polygons (suc n) plan h =
      let q = polygon_in polygons n in
      let before = mark_polygons polygons n plan in
      edges_marked q (corner_count q) before (still_inside plan before (polygons_leave length marked_length polygons n plan) h)
      ∙ ap (λ (x : Bool). cond (some (corner_count q) (wall_at q v)) true x) (polygons_marked polygons n plan h)
      ∙ either (some n (turns_at polygons v)) (some (corner_count q) (wall_at q v)) (is_marked plan v)

-- ---- the plan of a floor

module _ (s : ℕ) (vs ps : List ℕ) where
  abbrev bare : List ℕ
  bare = laid s (length vs / 8) (length ps / (s * 8))

  pub plan_slots : slots_in (plan_of s vs ps) ≡ s
  unfolding plan_of
  plan_slots = marks_leave slots_in marked_slots (polygons_of s ps) bare ∙ laid_slots s (length vs / 8) (length ps / (s * 8))

  plan_vertices : vertex_count_in (plan_of s vs ps) ≡ length vs / 8
  unfolding plan_of
  plan_vertices = marks_leave vertex_count_in marked_vertices (polygons_of s ps) bare ∙ laid_vertices s (length vs / 8) (length ps / (s * 8))

  plan_polygons : polygon_count_in (plan_of s vs ps) ≡ length ps / (s * 8)
  unfolding plan_of
  plan_polygons = marks_leave polygon_count_in marked_polygons (polygons_of s ps) bare ∙ laid_polygons s (length vs / 8) (length ps / (s * 8))

  -- "A turn vertex is one on a wall edge."
  pub plan_turns : (v : ℕ) → v < 1024 → is_marked (plan_of s vs ps) v ≡ is_turn (floor_of s vs ps) v
  unfolding plan_of turns_marked is_turn
  plan_turns v h =
      let polygons = polygons_of s ps in
      let inside = subst (λ (n : ℕ). 8 + v / 32 < n) (sym (laid_length s (length vs / 8) (length ps / (s * 8)))) (omega (arith, h)) in
      polygons_marked v polygons (length polygons) bare inside
      ∙ ap (λ (x : Bool). cond (some (length polygons) (turns_at polygons v)) true x) (laid_unmarked s (length vs / 8) (length ps / (s * 8)) v h)
      ∙ itself (some (length polygons) (turns_at polygons v))

  -- the ground that an accepted floor is, by its plan
  module _ (some_slots : 0 < s) (few_slots : s ≤ 16) (some : 1 ≤ length vs / 8) (few : length vs / 8 ≤ 1024)
      (few-polygons : length ps / (s * 8) ≤ 512) where
    pub ground : Accepted (floor_of s vs ps) → Ground (plan_of s vs ps) vs ps
    ground accepted = record {
      vertices_planned = record { counted = plan_vertices; some = some; few = few };
      polygons_planned = record {
        some_slots = subst (λ (k : ℕ). 0 < k) (sym plan_slots) some_slots;
        few_slots = subst (λ (k : ℕ). k ≤ 16) (sym plan_slots) few_slots;
        counted = subst (λ (k : ℕ). polygon_count_in (plan_of s vs ps) ≡ length ps / (k * 8)) (sym plan_slots) plan_polygons;
        few = subst (λ (k : ℕ). length ps / (k * 8) ≤ 512) (sym plan_slots) few-polygons;
      };
      accepted = subst (λ (k : ℕ). Accepted (floor_of k vs ps)) (sym plan_slots) accepted;
      turns_are_marked = λ v h.
          subst (λ (k : ℕ). is_marked (plan_of s vs ps) v ≡ is_turn (floor_of k vs ps) v) (sym plan_slots)
          (plan_turns v (lt_of_lt_of_le (subst (λ (n : ℕ). v < n) plan_vertices h) few));
    }

-- the plan as it was laid, before a vertex is marked
module _ (s : ℕ) (vs ps : List ℕ) where
  abbrev before_marks : List ℕ
  before_marks = laid s (length vs / 8) (length ps / (s * 8))

  pub laid_planned : 0 < s → s ≤ 16 → length ps / (s * 8) ≤ 512 → PolygonsPlanned before_marks ps
  laid_planned some_slots few_slots few =
      let slots = laid_slots s (length vs / 8) (length ps / (s * 8)) in
      let counted = laid_polygons s (length vs / 8) (length ps / (s * 8)) in record {
        some_slots = subst (λ (k : ℕ). 0 < k) (sym slots) some_slots;
        few_slots = subst (λ (k : ℕ). k ≤ 16) (sym slots) few_slots;
        counted = subst (λ (k : ℕ). polygon_count_in before_marks ≡ length ps / (k * 8)) (sym slots) counted;
        few = subst (λ (k : ℕ). length ps / (k * 8) ≤ 512) (sym slots) few;
      }
