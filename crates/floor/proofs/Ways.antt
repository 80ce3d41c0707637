-- Each way through the look's functions is the definition's, by what the code has found out on it. Assumes nothing.
use Prim.Native.Nat.{ℕ, ◌+◌, ◌*◌, ◌/◌, ◌≤◌, ◌<◌}
use native.Mathlib.Omega.{arith}
use mathlib.Core.Path.{◌≡◌, sym, ap, ◌∙◌, subst}
use mathlib.Core.Bool.{Bool, true, false, not}
use mathlib.Core.List.{List}
use borrow.Author.Count.{below_none as none_below, below_more}
use borrow.Author.Tests.{le-leb, lt-leb, lt-ltb, le-ltb, eq-eqb, ne_eqb, not-true, not-false}
use lib.ListN.{length, get_or}
use Rattle.std.specs.Prelude.{Option, Some, None, Result, Ok, Err}
use Rattle.point.specs.declared.Point.{Point}
use Rattle.counts.specs.Counts.{first, below}
use Rattle.counts.proofs.Laws.{first_is, below_some, below_none}
use Rattle.plan.specs.Plan.{vertex_count_in, polygon_count_in, laid}
use Rattle.stored.specs.Stored.{Floor, Polygon, origin, vertex_at, vertices_of, record_in, polygon_in, polygons_in, floor_in}
use Rattle.stored.specs.Stored.{floor_of, question_of, VerticesPlanned, PolygonsPlanned}
use Rattle.stored.specs.declared.Question.{Question as QuestionOf}
use Rattle.stored.proofs.Records.{polygons_counted, polygon_read, vertex_count_lem, vertex_is}
use Rattle.faults.specs.Tests.{length_right, point_right, corners_right, links_right, question_right}
use Rattle.edges.specs.Where.{polygon_of, turns_marked}
use Rattle.edges.specs.Ground.{Ground}
use Rattle.floor.specs.declared.Refusal.{Refusal}
use Rattle.floor.specs.declared.Refusal.TheVariants.{VertexLength, PolygonLength, Vertex, Corners, Links, Question, StartOutside, GoalOutside}
use Rattle.floor.specs.declared.Inside.{Inside}
use Rattle.floor.specs.Look.{bad_vertex, bad_corners, bad_links, at_fault, vertices_look_of, polygons_look_of, records_look_of, corners_look_of, links_look_of}
use Rattle.floor.specs.Look.{floor_look_of, laid_after, plan_if, plan_after, ask_of, look_of}
use Rattle.floor.specs.Exactly.{Lists}
use Rattle.floor.proofs.Exact.{whole_decided}
use Rattle.floor.proofs.Planned.{slots_laid, lists_right, slots_are, grounded}
use Rattle.floor.proofs.Looked.{question_length}

-- ---- a loop that ends at the first that is not right

-- none before i is wrong
pub record Right (wrong : ℕ → Bool) (i n : ℕ) : Type 0 where
  pub low : i ≤ n
  pub right : (k : ℕ) → k < i → wrong k ≡ false

pub right_none : {wrong : ℕ → Bool} {n : ℕ} → Right wrong 0 n
right_none = record { low = omega arith; right = none_below _ }

module _ {wrong : ℕ → Bool} {i n : ℕ} (h : Right wrong i n) where
  pub first_end : n ≤ i → i ≡ first n wrong
  first_end l = sym (first_is n wrong i h.low h.right (λ m. absurd (omega arith)))

  module _ (l : i < n) where
    pub right_more : wrong i ≡ false → Right wrong (i + 1) n
    right_more e = record { low = omega arith; right = below_more _ _ h.right e }

    pub first_here : wrong i ≡ true → i ≡ first n wrong
    first_here e = sym (first_is n wrong i h.low h.right (λ m. e))

-- what the test says of what it asks
pub asked_not : {b a c : Bool} → b ≡ a → not b ≡ c → not a ≡ c
asked_not asked e = ap not (sym asked) ∙ e

-- ---- 2 and 3

pub few_of : (size most : ℕ) (bytes : List ℕ) {a : Bool} → a ≡ length_right size most bytes → not a ≡ false → length bytes / size ≤ most
few_of size most bytes {a} asked e = ((whole_decided size most bytes).0 (sym asked ∙ not-false a e)).few

module _ (s : ℕ) (vs ps : List ℕ) {a : Bool} (asked : a ≡ length_right 8 1024 vs) where
  vertices_wrong : not a ≡ true → length_right 8 1024 vs ≡ false
  vertices_wrong e = sym asked ∙ not-true a e

  vertices_right : not a ≡ false → length_right 8 1024 vs ≡ true
  vertices_right e = sym asked ∙ not-false a e

  pub vertices_short : not a ≡ true → Err VertexLength ≡ corners_look_of s vs ps
  unfolding corners_look_of
  vertices_short e = rw (vertices_wrong e)

  pub vertices_unlaid : not a ≡ true → {before : List ℕ} → before ≡ laid_after s vs ps before
  unfolding laid_after
  vertices_unlaid e = rw (vertices_wrong e)

  module _ (e : not a ≡ false) {b : Bool} (asked-too : b ≡ length_right (s * 8) 512 ps) where
    polygons_wrong : not b ≡ true → length_right (s * 8) 512 ps ≡ false
    polygons_wrong g = sym asked-too ∙ not-true b g

    pub polygons_short : not b ≡ true → Err PolygonLength ≡ corners_look_of s vs ps
    unfolding corners_look_of
    polygons_short g = rw (vertices_right e, polygons_wrong g)

    pub polygons_unlaid : not b ≡ true → {before : List ℕ} → before ≡ laid_after s vs ps before
    unfolding laid_after
    polygons_unlaid g = rw (vertices_right e, polygons_wrong g)

    pub both_whole : not b ≡ false → Lists s vs ps
    both_whole g = record {
      vertices_whole = (whole_decided 8 1024 vs).0 (vertices_right e);
      polygons_whole = (whole_decided (s * 8) 512 ps).0 (sym asked-too ∙ not-false b g);
    }

-- then the plan is laid, and 4 and 5 are all
module _ (s : ℕ) (vs ps : List ℕ) (lists : Lists s vs ps) {plan : List ℕ} (is-laid : plan ≡ laid s (length vs / 8) (length ps / (s * 8))) where
  pub records_told : {look : Result Unit Refusal} → look ≡ records_look_of (floor_in plan vs ps) → look ≡ corners_look_of s vs ps
  unfolding corners_look_of
  records_told r =
      rw ((whole_decided 8 1024 vs).1 lists.vertices_whole, (whole_decided (s * 8) 512 ps).1 lists.polygons_whole)
      (r ∙ ap (λ k. records_look_of (floor_of k vs ps)) (slots_laid s vs ps is-laid))

  pub records_laid : (before : List ℕ) → plan ≡ laid_after s vs ps before
  records_laid before = is-laid ∙ sym (lists_right s vs ps lists before)

-- ---- 4, 5 and 6: what is told at the end of a loop, and at the record that ends it

pub vertex_told : (vs : List ℕ) (v : ℕ) → v < length vs / 8 → {p : Point} → p ≡ vertex_at vs v → {b : Bool} → b ≡ point_right p
    → b ≡ point_right (get_or (vertices_of vs) v origin)
vertex_told vs v l e g = rw (vertex_is vs v l, ← e) g

module _ (fault : ℕ → Refusal) {wrong : ℕ → Bool} {i n : ℕ} (h : Right wrong i n) {count : ℕ} (counted : n ≡ count) where
  none_found : n ≤ i → Ok tt ≡ at_fault fault (first count wrong) count
  none_found l = rw (← counted, ← first_end h l, le-ltb _ _ l)

  one_found : i < n → wrong i ≡ true → Err (fault i) ≡ at_fault fault (first count wrong) count
  one_found l e = rw (← counted, ← first_here h l e, lt-ltb _ _ l)

module _ (vs : List ℕ) {i n : ℕ} (h : Right (λ k. not (point_right (get_or (vertices_of vs) k origin))) i n) {count : ℕ} (stored : count ≡ length vs / 8)
    (counted : n ≡ count) where
  its_vertices : n ≡ length (vertices_of vs)
  its_vertices = counted ∙ stored ∙ sym (vertex_count_lem vs)

  pub vertices_right_told : n ≤ i → Ok tt ≡ vertices_look_of (vertices_of vs)
  unfolding vertices_look_of bad_vertex
  vertices_right_told = none_found Vertex h its_vertices

  pub vertex_wrong_told : i < n → {b : Bool} → b ≡ point_right (get_or (vertices_of vs) i origin) → not b ≡ true
      → Err (Vertex i) ≡ vertices_look_of (vertices_of vs)
  unfolding vertices_look_of bad_vertex
  vertex_wrong_told l asked e = one_found Vertex h its_vertices l (asked_not asked e)

module _ {plan ps : List ℕ} (planned : PolygonsPlanned plan ps) {n : ℕ} (counted : n ≡ polygon_count_in plan) where
  abbrev listed : List Polygon
  listed = polygons_in plan ps

  its_polygons : n ≡ length listed
  its_polygons = counted ∙ sym (polygons_counted planned)

  -- the polygon is the one that is stored
  pub polygon_told : {p : ℕ} → p < n → {q : Polygon} → q ≡ record_in plan ps p → {v count : ℕ} → v ≡ count → {b : Bool} → b ≡ corners_right v q
      → b ≡ corners_right count (polygon_in listed p)
  polygon_told {p} l read few asked = rw (polygon_read planned p (subst (λ (m : ℕ). p < m) counted l), ← read, ← few) asked

  module _ (count : ℕ) {i : ℕ} (h : Right (λ k. not (corners_right count (polygon_in listed k))) i n) where
    pub polygons_right_told : n ≤ i → Ok tt ≡ polygons_look_of count listed
    unfolding polygons_look_of bad_corners
    polygons_right_told = none_found Corners h its_polygons

    pub polygon_wrong_told : i < n → {b : Bool} → b ≡ corners_right count (polygon_in listed i) → not b ≡ true → Err (Corners i) ≡ polygons_look_of count listed
    unfolding polygons_look_of bad_corners
    polygon_wrong_told l asked e = one_found Corners h its_polygons l (asked_not asked e)

  module _ {i : ℕ} (h : Right (λ k. not (links_right listed k)) i n) where
    pub links_right_told : n ≤ i → Ok tt ≡ links_look_of listed
    unfolding links_look_of bad_links
    links_right_told = none_found Links h its_polygons

    pub link_wrong_told : i < n → {b : Bool} → b ≡ links_right listed i → not b ≡ true → Err (Links i) ≡ links_look_of listed
    unfolding links_look_of bad_links
    link_wrong_told l asked e = one_found Links h its_polygons l (asked_not asked e)

-- ---- the lowest record at fault, by a count that was read

pub bad_vertex_is : (vs : List ℕ) {count : ℕ} → count ≡ length vs / 8 → {n : ℕ} → n ≡ count
    → {v : ℕ} → v ≡ first n (λ k. not (point_right (get_or (vertices_of vs) k origin))) → v ≡ bad_vertex (vertices_of vs)
unfolding bad_vertex
bad_vertex_is vs stored counted e = rw (vertex_count_lem vs, ← stored, ← counted) e

module _ {plan ps : List ℕ} (planned : PolygonsPlanned plan ps) {n : ℕ} (counted : n ≡ polygon_count_in plan) {p : ℕ} where
  pub bad_corners_is : (count : ℕ) → p ≡ first n (λ k. not (corners_right count (polygon_in (polygons_in plan ps) k)))
      → p ≡ bad_corners count (polygons_in plan ps)
  unfolding bad_corners
  bad_corners_is count e = rw (polygons_counted planned, ← counted) e

  pub bad_links_is : p ≡ first n (λ k. not (links_right (polygons_in plan ps) k)) → p ≡ bad_links (polygons_in plan ps)
  unfolding bad_links
  bad_links_is e = rw (polygons_counted planned, ← counted) e

-- ---- 4 and 5

module _ {plan vs ps : List ℕ} (vertices : VerticesPlanned plan vs) (polygons : PolygonsPlanned plan ps) {v : ℕ} (bad : v ≡ bad_vertex (vertices_of vs))
    {n : ℕ} (counted : n ≡ vertex_count_in plan) where
  vertices_are : length (vertices_of vs) ≡ vertex_count_in plan
  vertices_are = vertex_count_lem vs ∙ sym vertices.counted

  pub bad_vertex_told : v < n → Err (Vertex v) ≡ records_look_of (floor_in plan vs ps)
  unfolding records_look_of vertices_look_of
  bad_vertex_told l = rw (← bad, vertices_are, ← counted, lt-ltb _ _ l)

  module _ (past : n ≤ v) {p : ℕ} (wrong : p ≡ bad_corners (vertex_count_in plan) (polygons_in plan ps))
      {m : ℕ} (listed_too : m ≡ polygon_count_in plan) where
    pub bad_corners_told : p < m → Err (Corners p) ≡ records_look_of (floor_in plan vs ps)
    unfolding records_look_of vertices_look_of polygons_look_of
    bad_corners_told l =
        rw (← bad, vertices_are, le-ltb _ _ (rw counted at past), ← wrong, polygons_counted polygons, ← listed_too, lt-ltb _ _ l)

    pub none_told : m ≤ p → Ok tt ≡ records_look_of (floor_in plan vs ps)
    unfolding records_look_of vertices_look_of polygons_look_of
    none_told l =
        rw (← bad, vertices_are, le-ltb _ _ (rw counted at past), ← wrong, polygons_counted polygons, ← listed_too, le-ltb _ _ l)

module _ (plan vs ps : List ℕ) where
  pub records_fault : {r : Refusal} → Err r ≡ vertices_look_of (vertices_of vs) → Err r ≡ records_look_of (floor_in plan vs ps)
  unfolding records_look_of
  records_fault e = rw (← e)

  pub records_rest : VerticesPlanned plan vs → Ok tt ≡ vertices_look_of (vertices_of vs) → {look : Result Unit Refusal}
      → look ≡ polygons_look_of (vertex_count_in plan) (polygons_in plan ps) → look ≡ records_look_of (floor_in plan vs ps)
  unfolding records_look_of
  records_rest planned e told = rw (← e, vertex_count_lem vs, ← planned.counted) told

-- ---- 6, and the plan

module _ {plan ps : List ℕ} (polygons : PolygonsPlanned plan ps) {p : ℕ} (bad : p ≡ bad_links (polygons_in plan ps))
    {n : ℕ} (counted : n ≡ polygon_count_in plan) where
  abbrev its : List Polygon
  its = polygons_in plan ps

  pub bad_links_told : p < n → Err (Links p) ≡ links_look_of its
  unfolding links_look_of
  bad_links_told l = rw (polygons_counted polygons, ← counted, ← bad, lt-ltb _ _ l)

  pub bad_links_plan : p < n → plan ≡ plan_if (links_look_of its) (turns_marked its plan) plan
  bad_links_plan l = rw (← bad_links_told l)

  pub right_links_told : n ≤ p → Ok tt ≡ links_look_of its
  unfolding links_look_of
  right_links_told l = rw (polygons_counted polygons, ← counted, ← bad, le-ltb _ _ l)

  pub right_links_plan : n ≤ p → {after : List ℕ} → after ≡ turns_marked its plan → after ≡ plan_if (links_look_of its) (turns_marked its plan) plan
  right_links_plan l e = rw (← right_links_told l) e

module _ (plan : List ℕ) (polygons : List Polygon) where
  pub links_plan : {r : Refusal} → Err r ≡ links_look_of polygons → plan ≡ plan_if (links_look_of polygons) (turns_marked polygons plan) plan
  links_plan e = rw (← e)

  pub turns_plan : Ok tt ≡ links_look_of polygons → {after : List ℕ} → after ≡ turns_marked polygons plan
      → after ≡ plan_if (links_look_of polygons) (turns_marked polygons plan) plan
  turns_plan e marked = rw (← e) marked

-- ---- 7

module _ (q : List ℕ) where
  pub question_short : (length q ≡ 16 → ⊥) → false ≡ question_right q
  unfolding question_right
  question_short e = rw (ne_eqb _ _ e)

  module _ (long : length q ≡ 16) {asked : QuestionOf} (read : asked ≡ question_of q) {b : Bool} (start : b ≡ point_right asked.start) where
    pub start_wrong : b ≡ false → b ≡ question_right q
    unfolding question_right
    start_wrong e = rw (eq-eqb _ _ long, ← read, ← start, e)

    pub goal_told : b ≡ true → {g : Bool} → g ≡ point_right asked.goal → g ≡ question_right q
    unfolding question_right
    goal_told e goal = rw (eq-eqb _ _ long, ← read, ← start, e, ← goal)

-- ---- 7 to 9

module _ (q : List ℕ) {b : Bool} (asked : b ≡ question_right q) where
  pub question_long : not b ≡ false → length q ≡ 16
  question_long e = question_length q (sym asked ∙ not-false b e)

  module _ (f : Floor) where
    pub question_wrong : not b ≡ true → Err Question ≡ ask_of f q
    unfolding ask_of
    question_wrong e = rw (← asked, not-true b e)

    module _ (e : not b ≡ false) {way : QuestionOf} (read : way ≡ question_of q)
        {from : Option ℕ} (start : from ≡ below (length f.polygons) (polygon_of f way.start)) where
      pub start_outside : from ≡ None → Err StartOutside ≡ ask_of f q
      unfolding ask_of
      start_outside none = rw (← asked, not-false b e, ← read, le-leb _ _ (below_none (length f.polygons) (polygon_of f way.start) (sym start ∙ none)))

      module _ {s : ℕ} (here : from ≡ Some s) {to : Option ℕ} (goal : to ≡ below (length f.polygons) (polygon_of f way.goal)) where
        pub goal_outside : to ≡ None → Err GoalOutside ≡ ask_of f q
        unfolding ask_of
        goal_outside none =
            let first = below_some (length f.polygons) (polygon_of f way.start) (sym start ∙ here) in
            rw (← asked, not-false b e, ← read, first.0, lt-leb _ _ first.1, le-leb _ _ (below_none (length f.polygons) (polygon_of f way.goal) (sym goal ∙ none)))

        pub both_inside : {g : ℕ} → to ≡ Some g → Ok (record { start = s; goal = g }) ≡ ask_of f q
        unfolding ask_of
        both_inside there =
            let first = below_some (length f.polygons) (polygon_of f way.start) (sym start ∙ here) in
            let second = below_some (length f.polygons) (polygon_of f way.goal) (sym goal ∙ there) in
            rw (← asked, not-false b e, ← read, first.0, lt-leb _ _ first.1, second.0, lt-leb _ _ second.1)

-- ---- 2 to 9

module _ (s : ℕ) (vs ps : List ℕ) {look : Result Unit Refusal} (told : look ≡ floor_look_of s vs ps) where
  pub fault_looked : {r : Refusal} → look ≡ Err r → (question : List ℕ) → Err r ≡ look_of s vs ps question
  unfolding look_of
  fault_looked e question = rw (sym told ∙ e)

  module _ (e : look ≡ Ok tt) (some : 0 < s) (few : s ≤ 16) (before : List ℕ) {plan : List ℕ} (after : plan ≡ plan_after s vs ps before) where
    pub looked_ground : Ground plan vs ps
    looked_ground = grounded s vs ps some few (sym told ∙ e) before after

    pub asked_looked : (question : List ℕ) {a : Result Inside Refusal} → a ≡ ask_of (floor_in plan vs ps) question → a ≡ look_of s vs ps question
    unfolding look_of
    asked_looked question g = rw (sym told ∙ e) (g ∙ ap (λ k. ask_of (floor_of k vs ps) question) (slots_are s vs ps some few (sym told ∙ e) before after))
