-- The plan along a look: laid where the lists' lengths are right, then the corners of every polygon are, then the turn vertices are marked, and it is
-- the plan of the ground that an accepted floor is. Assumes nothing.
use Prim.Native.Nat.{ℕ, ◌*◌, ◌/◌, ◌≤◌, ◌<◌}
use mathlib.Core.Path.{◌≡◌, refl, sym, ap, ◌∙◌, subst}
use mathlib.Core.Bool.{not}
use mathlib.Core.List.{List}
use borrow.Author.Tests.{not-false, ltb-false}
use lib.Dec.{ltb}
use lib.ListN.{length}
use Rattle.std.specs.Prelude.{Result, Ok, Err}
use Rattle.plan.specs.Plan.{slots_in, vertex_count_in, polygon_count_in, laid}
use Rattle.plan.proofs.Laws.{laid_slots, laid_vertices}
use Rattle.stored.specs.Stored.{Floor, record_in, polygons_of, polygons_in, floor_of, VerticesPlanned, PolygonsPlanned}
use Rattle.stored.proofs.Records.{polygon_read, polygons_counted, vertex_count_lem}
use Rattle.faults.specs.Tests.{length_right}
use Rattle.faults.specs.Accepted.{Corners}
use Rattle.edges.specs.Where.{turns_marked, plan_of}
use Rattle.edges.specs.Ground.{Ground}
use Rattle.edges.proofs.Turned.{laid_planned, plan_slots, ground}
use Rattle.floor.specs.declared.Refusal.{Refusal}
use Rattle.floor.specs.declared.Refusal.TheVariants.{VertexLength, PolygonLength, Vertex, Corners as CornersFault}
use Rattle.floor.specs.Look.{bad_vertex, bad_corners, vertices_look_of, polygons_look_of, records_look_of, corners_look_of, links_look_of, and_then}
use Rattle.floor.specs.Look.{floor_look_of, laid_after, plan_if, plan_after}
use Rattle.floor.specs.Exactly.{Lists, CornersRight}
use Rattle.floor.proofs.Exact.{when, whole_decided, corners_told, floor_exactly}

module _ (s : ℕ) (vs ps : List ℕ) where
  abbrev bare : List ℕ
  bare = laid s (length vs / 8) (length ps / (s * 8))

  abbrev f : Floor
  f = floor_of s vs ps

  -- ---- after 2 and 3

  module _ (some : 0 < s) (few : s ≤ 16) (lists : Lists s vs ps) {plan : List ℕ} (is-laid : plan ≡ bare) where
    pub vertices_laid : VerticesPlanned plan vs
    vertices_laid =
        subst (λ (l : List ℕ). VerticesPlanned l vs) (sym is-laid)
        (record { counted = laid_vertices s (length vs / 8) (length ps / (s * 8)); some = lists.vertices_whole.some; few = lists.vertices_whole.few })

    pub polygons_laid : PolygonsPlanned plan ps
    polygons_laid = subst (λ (l : List ℕ). PolygonsPlanned l ps) (sym is-laid) (laid_planned s vs ps some few lists.polygons_whole.few)

  pub slots_laid : {plan : List ℕ} → plan ≡ bare → slots_in plan ≡ s
  slots_laid e = ap slots_in e ∙ laid_slots s (length vs / 8) (length ps / (s * 8))

  -- ---- after 2 to 5

  -- what is known where nothing is at fault so far
  abbrev CornersCase : Result Unit Refusal → Type 0
  CornersCase (Ok tt) = Lists s vs ps × ((p : ℕ) → p < length f.polygons → CornersRight f p)
  CornersCase (Err r) = Unit {0}

  corners_given : CornersCase (corners_look_of s vs ps)
  unfolding corners_look_of records_look_of vertices_look_of polygons_look_of
  corners_given =
      let p = bad_corners (length f.vertices) f.polygons in
      let P : Result Unit Refusal → Type 0 = λ a. CornersCase (and_then a (polygons_look_of (length f.vertices) f.polygons)) in
      when CornersCase (not (length_right 8 1024 vs)) (Err VertexLength) (λ e. tt) (λ a.
      when CornersCase (not (length_right (s * 8) 512 ps)) (Err PolygonLength) (λ e. tt) (λ b.
      let lists : Lists s vs ps = record {
        vertices_whole = (whole_decided 8 1024 vs).0 (not-false _ a);
        polygons_whole = (whole_decided (s * 8) 512 ps).0 (not-false _ b);
      } in
      when P (ltb (bad_vertex f.vertices) (length f.vertices)) (Err (Vertex (bad_vertex f.vertices))) (λ e. tt) (λ c.
      when CornersCase (ltb p (length f.polygons)) (Err (CornersFault p)) (λ e. tt) (λ d. (lists, (corners_told f).none.0 (ltb-false _ _ d))))))

  pub lists_right : Lists s vs ps → (before : List ℕ) → laid_after s vs ps before ≡ bare
  unfolding laid_after
  lists_right l before = rw ((whole_decided 8 1024 vs).1 l.vertices_whole, (whole_decided (s * 8) 512 ps).1 l.polygons_whole)

  module _ (some : 0 < s) (few : s ≤ 16) {look : Result Unit Refusal} (told : look ≡ corners_look_of s vs ps) (e : look ≡ Ok tt) (before : List ℕ)
      {plan : List ℕ} (after : plan ≡ laid_after s vs ps before) where
    known : CornersCase (Ok tt)
    known = subst CornersCase (sym told ∙ e) corners_given

    laid_now : plan ≡ bare
    laid_now = after ∙ lists_right known.0 before

    vertices_now : VerticesPlanned plan vs
    vertices_now = vertices_laid some few known.0 laid_now

    pub vertices_few_now : vertex_count_in plan ≤ 1024
    vertices_few_now = rw vertices_now.counted vertices_now.few

    pub polygons_now : PolygonsPlanned plan ps
    polygons_now = polygons_laid some few known.0 laid_now

    pub corners_now : (p : ℕ) → p < polygon_count_in plan → Corners (vertex_count_in plan) (record_in plan ps p)
    corners_now p h =
        let slots = slots_laid laid_now in
        let below : p < length (polygons_of s ps)
        = subst (λ (k : ℕ). p < length (polygons_of k ps)) slots (subst (λ (n : ℕ). p < n) (sym (polygons_counted polygons_now)) h) in
        let right = known.1 p below in
        rw (polygon_read polygons_now p h, vertex_count_lem vs ∙ sym vertices_now.counted) at
        (subst (λ (k : ℕ). CornersRight (floor_of k vs ps) p) (sym slots) right)

    -- ---- after 6

    links_are : links_look_of (polygons_in plan ps) ≡ floor_look_of s vs ps
    unfolding floor_look_of
    links_are = rw (sym told ∙ e) (ap (λ (k : ℕ). links_look_of (polygons_of k ps)) (slots_laid laid_now))

    plan_is : plan_if (links_look_of (polygons_in plan ps)) (turns_marked (polygons_in plan ps) plan) plan ≡ plan_after s vs ps before
    unfolding plan_after plan_of
    plan_is =
        rw (slots_laid laid_now) (
        rw (← links_are, slots_laid laid_now, ← after)
        (ap (λ (l : List ℕ). plan_if (links_look_of (polygons_of s ps)) (turns_marked (polygons_of s ps) l) plan) laid_now))

    pub plan_told : {now : List ℕ} → now ≡ plan_if (links_look_of (polygons_in plan ps)) (turns_marked (polygons_in plan ps) plan) plan
        → now ≡ plan_after s vs ps before
    plan_told l = l ∙ plan_is

  -- the look at the links is the floor's where nothing was found before
  pub links_told : 0 < s → s ≤ 16 → corners_look_of s vs ps ≡ Ok tt → (before : List ℕ)
      → links_look_of (polygons_in (laid_after s vs ps before) ps) ≡ floor_look_of s vs ps
  links_told some few e before = links_are some few refl e before refl

  -- a fault that was found before 6 stays
  module _ {look : Result Unit Refusal} (told : look ≡ corners_look_of s vs ps) {r : Refusal} (e : look ≡ Err r) where
    pub fault_told : Err r ≡ floor_look_of s vs ps
    unfolding floor_look_of
    fault_told = rw (sym told ∙ e)

    pub fault_plan : (before : List ℕ) {plan : List ℕ} → plan ≡ laid_after s vs ps before → plan ≡ plan_after s vs ps before
    unfolding plan_after
    fault_plan before p = p ∙ rw (← fault_told)

  -- ---- after the look

  module _ (some : 0 < s) (few : s ≤ 16) (e : floor_look_of s vs ps ≡ Ok tt) (before : List ℕ) {plan : List ℕ} (after : plan ≡ plan_after s vs ps before) where
    pub its_plan : plan ≡ plan_of s vs ps
    unfolding plan_after
    its_plan = after ∙ ap (λ (a : Result Unit Refusal). plan_if a (plan_of s vs ps) (laid_after s vs ps before)) e

    pub slots_are : slots_in plan ≡ s
    slots_are = ap slots_in its_plan ∙ plan_slots s vs ps

    pub grounded : Ground plan vs ps
    grounded =
        let h = (floor_exactly s vs ps (Ok tt)).0 e in
        subst (λ (l : List ℕ). Ground l vs ps) (sym its_plan)
        (ground s vs ps some few h.0.vertices_whole.some h.0.vertices_whole.few h.0.polygons_whole.few h.1)
