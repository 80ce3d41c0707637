-- "Each number is given exactly in its case": `floor_exactly` of a floor alone, `each_exactly` of a floor and a question, both ways for every answer, with
-- the cases as specs/Exactly has them; and no two cases meet. Assumes nothing.
use Prim.Native.Nat.{ℕ, ◌*◌, ◌≤◌, ◌<◌}
use native.Mathlib.Nat.{lt_irrefl, lt_of_lt_of_le}
use native.Mathlib.Omega.{arith}
use native.Mathlib.Decide.{dec_lt}
use mathlib.Core.Path.{◌≡◌, refl, sym, ◌∙◌, subst}
use mathlib.Core.Bool.{Bool, true, false, not, cond}
use mathlib.Core.List.{List}
use mathlib.Core.Logic.{◌↔◌}
use borrow.Author.Tests.{ltb-true, ltb-false, lt-ltb, le-ltb, leb-true, leb-false, le-leb, lt-leb, not-true, not-false}
use lib.Dec.{T, ltb, leb}
use lib.ListN.{length, get_or}
use Rattle.std.specs.Prelude.{Result, Ok, Err}
use Rattle.counts.specs.Counts.{Least, TellsLowest}
use Rattle.counts.proofs.Decides.{holds_not, not_holds, every_decides, first_tells_fault, first_is_least, least_is_first, some_is_so}
use Rattle.float.proofs.Tests.{untrue}
use Rattle.point.specs.declared.Point.{Point}
use Rattle.point.specs.declared.EdgeSide.{EdgeSide}
use Rattle.point.specs.declared.EdgeSide.TheVariants.{Left, Right, Edge}
use Rattle.point.specs.Sides.{side_of, same_side_of}
use Rattle.floor.specs.declared.Refusal.TheVariants.{VertexLength, PolygonLength, Vertex, Corners as CornersFault, Links as LinksFault}
use Rattle.floor.specs.declared.Refusal.TheVariants.{Question, StartOutside, GoalOutside}
use Rattle.floor.specs.declared.Refusal.{Refusal}
use Rattle.floor.specs.declared.Inside.{Inside}
use Rattle.stored.specs.Stored.{Floor, origin, floor_of, question_of, polygon, edge, corner_count}
use Rattle.faults.specs.Tests.{length_right, point_right, corners_right, links_right, question_right}
use Rattle.faults.specs.Accepted.{Links}
use Rattle.edges.specs.Where.{contains, polygon_of}
use Rattle.floor.specs.Look.{bad_vertex, bad_corners, bad_links, vertices_look_of, polygons_look_of, records_look_of, corners_look_of, links_look_of}
use Rattle.floor.specs.Look.{and_then, floor_look_of, ask_of, look_of}
use Rattle.floor.specs.Exactly.{Whole, Lists, VertexRight, CornersRight, Asked, Contains, InSome, FloorCase, Case}
use Rattle.faults.proofs.Decided.{both, through, equal, length_decided, point_decided, corners_decided, links_decided}

-- ---- what each test decides

pub whole_decided : (size most : ℕ) (bytes : List ℕ) → length_right size most bytes ≡ true ↔ Whole size most bytes
whole_decided size most bytes =
    through (length_decided size most bytes) (λ h. record { whole = h.0; some = h.1.0; few = h.1.1 }) (λ w. (w.whole, (w.some, w.few)))

pub asked_decided : (question : List ℕ) → question_right question ≡ true ↔ Asked question
unfolding question_right
asked_decided question =
    through (both (equal (length question) 16) (both (point_decided (question_of question).start) (point_decided (question_of question).goal)))
    (λ h. record { long = h.0; start = h.1.0; goal = h.1.1 }) (λ a. (a.long, (a.start, a.goal)))

side_decided : (s : EdgeSide) → not (same_side_of s Right) ≡ true ↔ ¬ (s ≡ Right)
unfolding same_side_of
side_decided Left = ((λ _ e. subst (λ (s : EdgeSide). T (not (same_side_of s Right))) e tt), (λ _. refl))
side_decided Right = ((λ e _. untrue e), (λ n. absurd (n refl)))
side_decided Edge = ((λ _ e. subst (λ (s : EdgeSide). T (not (same_side_of s Right))) e tt), (λ _. refl))

module _ (f : Floor) where
  pub vertices_told : TellsLowest (length f.vertices) (VertexRight f) (bad_vertex f.vertices)
  unfolding bad_vertex
  vertices_told =
      first_tells_fault (length f.vertices) (λ v. point_right (get_or f.vertices v origin)) (VertexRight f)
      (λ v l. point_decided (get_or f.vertices v origin))

  pub corners_told : TellsLowest (length f.polygons) (CornersRight f) (bad_corners (length f.vertices) f.polygons)
  unfolding bad_corners
  corners_told =
      first_tells_fault (length f.polygons) (λ p. corners_right (length f.vertices) (polygon f p)) (CornersRight f)
      (λ p l. corners_decided (length f.vertices) (polygon f p))

  pub links_told : TellsLowest (length f.polygons) (Links f) (bad_links f.polygons)
  unfolding bad_links
  links_told = first_tells_fault (length f.polygons) (links_right f.polygons) (Links f) (λ p l. links_decided f p)

  module _ (point : Point) where
    pub contains_decided : (p : ℕ) → contains f point p ≡ true ↔ Contains f point p
    unfolding contains edge
    contains_decided p =
        every_decides (corner_count (polygon f p)) (λ i. not (same_side_of (side_of point (edge f p i)) Right)) (λ i. ¬ (side_of point (edge f p i) ≡ Right))
        (λ i l. side_decided (side_of point (edge f p i)))

    pub in_some : polygon_of f point < length f.polygons ↔ InSome f point
    unfolding polygon_of
    in_some = some_is_so (length f.polygons) (contains f point) (Contains f point) (λ p l. contains_decided p)

    pub polygon_is_least : polygon_of f point < length f.polygons → Least (length f.polygons) (Contains f point) (polygon_of f point)
    unfolding polygon_of
    polygon_is_least = first_is_least (length f.polygons) (contains f point) (Contains f point) (λ p l. contains_decided p)

    pub least_is_polygon : (p : ℕ) → Least (length f.polygons) (Contains f point) p → polygon_of f point ≡ p
    unfolding polygon_of
    least_is_polygon = least_is_first (length f.polygons) (contains f point) (Contains f point) (λ p l. contains_decided p)

-- ---- what is given is in its case, test by test

pub when : {A : Type 0} (P : A → Type 0) (test : Bool) (x : A) {y : A} → (test ≡ true → P x) → (test ≡ false → P y) → P (cond test x y)
when P true x t e = t refl
when P false x t e = e refl

past : {m n : ℕ} → m < n → n ≤ m → ⊥
past {m} {n} l h = lt_irrefl m (lt_of_lt_of_le l h)

-- a point that is in none
pub outside : (f : Floor) (point : Point) → ¬ InSome f point → length f.polygons ≤ polygon_of f point
outside f point n = go (dec_lt (polygon_of f point) (length f.polygons))
  where
    go : Dec (polygon_of f point < length f.polygons) → length f.polygons ≤ polygon_of f point
    go (yes h) = absurd (n ((in_some f point).0 h))
    go (no h) = omega arith

module _ (s : ℕ) (vs ps : List ℕ) where
  abbrev f : Floor
  f = floor_of s vs ps

  floor_given : FloorCase s vs ps (floor_look_of s vs ps)
  unfolding floor_look_of corners_look_of records_look_of vertices_look_of polygons_look_of links_look_of
  floor_given =
      let v = bad_vertex f.vertices in
      let p = bad_corners (length f.vertices) f.polygons in
      let q = bad_links f.polygons in
      let P : Result Unit Refusal → Type 0 = λ a. FloorCase s vs ps (and_then a (links_look_of f.polygons)) in
      let Q : Result Unit Refusal → Type 0 = λ a. P (and_then a (polygons_look_of (length f.vertices) f.polygons)) in
      when P (not (length_right 8 1024 vs)) (Err VertexLength) (λ e. holds_not (whole_decided 8 1024 vs) (not-true _ e)) (λ a.
      let w = (whole_decided 8 1024 vs).0 (not-false _ a) in
      when P (not (length_right (s * 8) 512 ps)) (Err PolygonLength) (λ e. (w, holds_not (whole_decided (s * 8) 512 ps) (not-true _ e))) (λ b.
      let lists : Lists s vs ps = record { vertices_whole = w; polygons_whole = (whole_decided (s * 8) 512 ps).0 (not-false _ b) } in
      when Q (ltb v (length f.vertices)) (Err (Vertex v)) (λ e. (lists, (vertices_told f).lowest (ltb-true _ _ e))) (λ c.
      let vertices = (vertices_told f).none.0 (ltb-false _ _ c) in
      when P (ltb p (length f.polygons)) (Err (CornersFault p)) (λ e. (lists, vertices, (corners_told f).lowest (ltb-true _ _ e))) (λ d.
      let corners = (corners_told f).none.0 (ltb-false _ _ d) in
      when (FloorCase s vs ps) (ltb q (length f.polygons)) (Err (LinksFault q))
      (λ e. (lists, vertices, corners, (links_told f).lowest (ltb-true _ _ e))) (λ g.
      let accepted : FloorCase s vs ps (Ok tt) = (lists, record { vertices = vertices; corners = corners; links = (links_told f).none.0 (ltb-false _ _ g) }) in
      accepted)))))

  -- ---- and in its case each is given

  lists_right : Lists s vs ps → (length_right 8 1024 vs ≡ true) × (length_right (s * 8) 512 ps ≡ true)
  lists_right l = ((whole_decided 8 1024 vs).1 l.vertices_whole, (whole_decided (s * 8) 512 ps).1 l.polygons_whole)

  floor_found : (a : Result Unit Refusal) → FloorCase s vs ps a → floor_look_of s vs ps ≡ a
  unfolding floor_look_of corners_look_of records_look_of vertices_look_of polygons_look_of links_look_of
  floor_found (Err VertexLength) h = rw (not_holds _ (whole_decided 8 1024 vs) h)
  floor_found (Err PolygonLength) h = rw ((whole_decided 8 1024 vs).1 h.0, not_holds _ (whole_decided (s * 8) 512 ps) h.1)
  floor_found (Err (Vertex v)) h =
      let l = lists_right h.0 in
      rw (l.0, l.1, (vertices_told f).is_lowest v h.1, lt-ltb _ _ h.1.listed)
  floor_found (Err (CornersFault p)) h =
      let l = lists_right h.0 in
      rw (l.0, l.1, le-ltb _ _ ((vertices_told f).none.1 h.1), (corners_told f).is_lowest p h.2, lt-ltb _ _ h.2.listed)
  floor_found (Err (LinksFault p)) h =
      let l = lists_right h.0 in
      rw (
        l.0,
        l.1,
        le-ltb _ _ ((vertices_told f).none.1 h.1),
        le-ltb _ _ ((corners_told f).none.1 h.2),
        (links_told f).is_lowest p h.3,
        lt-ltb _ _ h.3.listed,
      )
  floor_found (Ok tt) h =
      let l = lists_right h.0 in
      rw (
        l.0,
        l.1,
        le-ltb _ _ ((vertices_told f).none.1 h.1.vertices),
        le-ltb _ _ ((corners_told f).none.1 h.1.corners),
        le-ltb _ _ ((links_told f).none.1 h.1.links),
      )
  floor_found (Err Question) h = absurd h
  floor_found (Err StartOutside) h = absurd h
  floor_found (Err GoalOutside) h = absurd h

  pub floor_exactly : (a : Result Unit Refusal) → floor_look_of s vs ps ≡ a ↔ FloorCase s vs ps a
  floor_exactly a = ((λ e. subst (FloorCase s vs ps) e floor_given), floor_found a)

  -- ---- a floor and a question

  module _ (question : List ℕ) where
    abbrev start : Point
    start = (question_of question).start

    abbrev goal : Point
    goal = (question_of question).goal

    asked_given : FloorCase s vs ps (Ok tt) → Case s vs ps question (ask_of f question)
    unfolding ask_of
    asked_given h =
        when (Case s vs ps question) (not (question_right question)) (Err Question) (λ e. (h, holds_not (asked_decided question) (not-true _ e))) (λ a.
        let asked = (asked_decided question).0 (not-false _ a) in
        when (Case s vs ps question) (leb (length f.polygons) (polygon_of f start)) (Err StartOutside)
        (λ e. (h, asked, λ i. past ((in_some f start).1 i) (leb-true _ _ e))) (λ b.
        when (Case s vs ps question) (leb (length f.polygons) (polygon_of f goal)) (Err GoalOutside)
        (λ e. (h, asked, (in_some f start).0 (leb-false _ _ b), λ i. past ((in_some f goal).1 i) (leb-true _ _ e))) (λ c.
        (h, asked, polygon_is_least f start (leb-false _ _ b), polygon_is_least f goal (leb-false _ _ c)))))

    given : Case s vs ps question (look_of s vs ps question)
    unfolding look_of
    given = go (floor_look_of s vs ps) floor_given
      where
        go : (a : Result Unit Refusal) → FloorCase s vs ps a → Case s vs ps question (and_then a (ask_of f question))
        go (Ok tt) h = asked_given h
        go (Err VertexLength) h = h
        go (Err PolygonLength) h = h
        go (Err (Vertex v)) h = h
        go (Err (CornersFault p)) h = h
        go (Err (LinksFault p)) h = h
        go (Err Question) h = absurd h
        go (Err StartOutside) h = absurd h
        go (Err GoalOutside) h = absurd h

    found : (a : Result Inside Refusal) → Case s vs ps question a → look_of s vs ps question ≡ a
    unfolding look_of ask_of
    found (Err VertexLength) h = rw (floor_found (Err VertexLength) h)
    found (Err PolygonLength) h = rw (floor_found (Err PolygonLength) h)
    found (Err (Vertex v)) h = rw (floor_found (Err (Vertex v)) h)
    found (Err (CornersFault p)) h = rw (floor_found (Err (CornersFault p)) h)
    found (Err (LinksFault p)) h = rw (floor_found (Err (LinksFault p)) h)
    found (Err Question) h = rw (floor_found (Ok tt) h.0, not_holds _ (asked_decided question) h.1)
    found (Err StartOutside) h = rw (floor_found (Ok tt) h.0, (asked_decided question).1 h.1, le-leb _ _ (outside f start h.2))
    found (Err GoalOutside) h =
        rw (floor_found (Ok tt) h.0, (asked_decided question).1 h.1, lt-leb _ _ ((in_some f start).1 h.2), le-leb _ _ (outside f goal h.3))
    found (Ok inside) h =
        rw (
          floor_found (Ok tt) h.0,
          (asked_decided question).1 h.1,
          least_is_polygon f start inside.start h.2,
          lt-leb _ _ h.2.listed,
          least_is_polygon f goal inside.goal h.3,
          lt-leb _ _ h.3.listed,
        )

    pub each_exactly : (a : Result Inside Refusal) → look_of s vs ps question ≡ a ↔ Case s vs ps question a
    each_exactly a = ((λ e. subst (Case s vs ps question) e given), found a)

    -- the cases leave no second answer
    pub one_case : (a b : Result Inside Refusal) → Case s vs ps question a → Case s vs ps question b → a ≡ b
    one_case a b h k = sym (found a h) ∙ found b k
