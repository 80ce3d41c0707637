-- What document 01 says of the walk beside its definition, for every f32: how many intervals an edge yields and how they join, how many successors there
-- are, and which edges are visited. Rests on specs/Walk and specs/Round. Assumes nothing.
use Prim.Native.Nat.{ℕ, zero, suc, ◌+◌, ◌-◌, ◌*◌, ◌≤◌, ◌<◌}
use mathlib.Core.Path.{◌≡◌, refl, sym, ap, ◌∙◌}
use mathlib.Core.Bool.{Bool, true, false}
use mathlib.Core.List.{List, [], ◌∷◌, ◌++◌}
use mathlib.Core.Logic.{⊎_elim}
use native.Mathlib.Omega.{arith}
use borrow.Author.Tests.{ltb-true, ltb-false}
use lib.Dec.{ltb}
use lib.ListN.{length, get_or, length-append, length-map}
use lib.Seq.{get_or-take}
use Rattle.std.specs.Prelude.{Option, Some, None}
use Rattle.point.specs.declared.Point.{Point}
use Rattle.point.specs.declared.Segment.{Segment}
use Rattle.cut.specs.declared.SuccessorType.{SuccessorType}
use Rattle.cut.specs.declared.SuccessorType.TheVariants.{RightNonObservable}
use Rattle.walk.specs.declared.Part.{Part}
use Rattle.cut.specs.declared.Cut.{Cut}
use Rattle.cut.specs.Cut.{first_cut_of, second_cut_of}
use Rattle.walk.specs.Walk.{Walk, part_of, before, behind, cut_or, rest_of, left_of, walk_edge_of, one_of, two_of, three_of, held, walked_of, parts_of}
use Rattle.walk.specs.Walk.{no_part, part_at}
use Rattle.walk.specs.Round.{wrapped, edge_of, after_entry, edges_from, others, VisitsTheOthersOnce, walk_of, successors_of}
use Rattle.walk.proofs.Wrap.{wrapped_cases, up_to_the_last, from_the_first, length_edges, edge_at}

-- ---- one edge, by its cuts

-- the parts that two cuts make of what lies between s and e, each of which may be missing
abbrev laid : Option Point → Option Point → Point → Point → SuccessorType → SuccessorType → SuccessorType → List Part
laid a b s e k0 k1 k2 = before a s k0 ++ (part_of (cut_or a s) (cut_or b e) k1 ∷ behind b e k2)

module _ (s e : Point) (k0 k1 k2 : SuccessorType) where
  laid_count : (a b : Option Point) → (1 ≤ length (laid a b s e k0 k1 k2)) × (length (laid a b s e k0 k1 k2) ≤ 3)
  laid_count (Some p) (Some q) = omega arith
  laid_count (Some p) None = omega arith
  laid_count None (Some q) = omega arith
  laid_count None None = omega arith

  laid_begins : (a b : Option Point) → (part_at (laid a b s e k0 k1 k2) 0).interval.0 ≡ s
  unfolding part_of
  laid_begins (Some p) b = refl
  laid_begins None b = refl

  laid_joins : (a b : Option Point) (i : ℕ) → suc i < length (laid a b s e k0 k1 k2)
      → (part_at (laid a b s e k0 k1 k2) (suc i)).interval.0 ≡ (part_at (laid a b s e k0 k1 k2) i).interval.1
  unfolding part_of
  laid_joins (Some p) (Some q) zero h = refl
  laid_joins (Some p) (Some q) (suc zero) h = refl
  laid_joins (Some p) (Some q) (suc (suc i)) h = absurd (omega arith)
  laid_joins (Some p) None zero h = refl
  laid_joins (Some p) None (suc i) h = absurd (omega arith)
  laid_joins None (Some q) zero h = refl
  laid_joins None (Some q) (suc i) h = absurd (omega arith)
  laid_joins None None i h = absurd (omega arith)

  laid_ends : (a b : Option Point) → (part_at (laid a b s e k0 k1 k2) (length (laid a b s e k0 k1 k2) - 1)).interval.1 ≡ e
  unfolding part_of
  laid_ends (Some p) (Some q) = refl
  laid_ends (Some p) None = refl
  laid_ends None (Some q) = refl
  laid_ends None None = refl

-- ---- one edge

module _ (root : Point) (interval edge : Segment) (kind : SuccessorType) where
  abbrev first : Cut
  first = first_cut_of (root, interval.0) edge kind

  abbrev second : Cut
  second = second_cut_of (root, interval.1) (root, interval.0) (cut_or first.at edge.0, edge.1) first.kind

  abbrev parts : List Part
  parts = (walk_edge_of root interval edge kind).parts

  -- 01, The walk: "Each edge yields one to three intervals;"
  pub one_to_three : (1 ≤ length parts) × (length parts ≤ 3)
  unfolding walk_edge_of left_of rest_of
  one_to_three = laid_count edge.0 edge.1 kind first.kind second.kind first.at second.at

  -- "the first begins at its start corner,"
  pub begins_at_start : (part_at parts 0).interval.0 ≡ edge.0
  unfolding walk_edge_of left_of rest_of
  begins_at_start = laid_begins edge.0 edge.1 kind first.kind second.kind first.at second.at

  -- "each next where the last ended,"
  pub each_where_the_last_ended : (i : ℕ) → suc i < length parts → (part_at parts (suc i)).interval.0 ≡ (part_at parts i).interval.1
  unfolding walk_edge_of left_of rest_of
  each_where_the_last_ended = laid_joins edge.0 edge.1 kind first.kind second.kind first.at second.at

  -- "and the final one ends at its end corner."
  pub ends_at_end : (part_at parts (length parts - 1)).interval.1 ≡ edge.1
  unfolding walk_edge_of left_of rest_of
  ends_at_end = laid_ends edge.0 edge.1 kind first.kind second.kind first.at second.at

-- ---- in the array with its count

held_parts : (ps : List Part) (kind : SuccessorType) → 1 ≤ length ps → length ps ≤ 3 → parts_of (held ps kind) ≡ ps
unfolding one_of two_of three_of
held_parts [] kind h l = absurd (omega arith)
held_parts (a ∷ []) kind h l = refl
held_parts (a ∷ b ∷ []) kind h l = refl
held_parts (a ∷ b ∷ c ∷ []) kind h l = refl
held_parts (a ∷ b ∷ c ∷ d ∷ rest) kind h l = absurd (omega arith)

held_count : (ps : List Part) (kind : SuccessorType) → length ps ≤ 3 → (held ps kind).count ≡ length ps
unfolding one_of two_of three_of
held_count [] kind l = refl
held_count (a ∷ []) kind l = refl
held_count (a ∷ b ∷ []) kind l = refl
held_count (a ∷ b ∷ c ∷ []) kind l = refl
held_count (a ∷ b ∷ c ∷ d ∷ rest) kind l = absurd (omega arith)

held_three : (ps : List Part) (kind : SuccessorType) → 1 ≤ length ps → length (held ps kind).parts ≡ 3
unfolding one_of two_of three_of
held_three [] kind h = absurd (omega arith)
held_three (a ∷ []) kind h = refl
held_three (a ∷ b ∷ []) kind h = refl
held_three (a ∷ b ∷ c ∷ rest) kind h = refl

held_kind : (ps : List Part) (kind : SuccessorType) → (held ps kind).kind ≡ kind
unfolding one_of two_of three_of
held_kind [] kind = refl
held_kind (a ∷ []) kind = refl
held_kind (a ∷ b ∷ []) kind = refl
held_kind (a ∷ b ∷ c ∷ rest) kind = refl

module _ (root : Point) (interval edge : Segment) (kind : SuccessorType) where
  abbrev walk : Walk
  walk = walk_edge_of root interval edge kind

  -- what `walk_edge` gives holds the edge's parts, as many as it says, in an array of three, and its kind
  pub array_holds_the_parts : parts_of (walked_of walk) ≡ walk.parts
  array_holds_the_parts = held_parts walk.parts walk.kind (one_to_three root interval edge kind).0 (one_to_three root interval edge kind).1

  pub count_is_their_number : (walked_of walk).count ≡ length walk.parts
  count_is_their_number = held_count walk.parts walk.kind (one_to_three root interval edge kind).1

  pub count_is_one_to_three : (1 ≤ (walked_of walk).count) × ((walked_of walk).count ≤ 3)
  count_is_one_to_three = omega (arith, count_is_their_number, one_to_three root interval edge kind)

  pub array_is_of_three : length (walked_of walk).parts ≡ 3
  array_is_of_three = held_three walk.parts walk.kind (one_to_three root interval edge kind).0

  pub kind_is_the_walk's : (walked_of walk).kind ≡ walk.kind
  kind_is_the_walk's = held_kind walk.parts walk.kind

  -- the i-th is read at i
  pub part_is_at_its_place : (i : ℕ) → i < (walked_of walk).count → part_at (walked_of walk).parts i ≡ part_at walk.parts i
  part_is_at_its_place i h =
      sym (get_or-take (walked_of walk).count (walked_of walk).parts i no_part h) ∙ ap (λ (ps : List Part). part_at ps i) array_holds_the_parts

-- ---- round a polygon

module _ (root : Point) (interval : Segment) (corners : List Point) where
  three_each : (kind : SuccessorType) (is : List ℕ) → length (walk_of root interval corners kind is) ≤ 3 * length is
  unfolding walk_of
  three_each kind [] = omega arith
  three_each kind (i ∷ is) =
      let walk = walk_edge_of root interval (edge_of corners i) kind in
      simp (length-append, length-map) (omega (arith, one_to_three root interval (edge_of corners i) kind, three_each walk.kind is))

  -- at most three for each of the n − 1 edges
  pub at_most : (entry : ℕ) → length (successors_of root interval corners entry) ≤ 3 * (length corners - 1)
  unfolding successors_of others
  at_most entry =
      let e = length_edges (length corners) entry 0 (length corners - 1) in
      omega (arith, e, three_each RightNonObservable (edges_from (length corners) entry 0 (length corners - 1)))

  -- 01, The walk: "At most 21 successors." A polygon has at most 8 corners.
  pub at_most_21 : (entry : ℕ) → length corners ≤ 8 → length (successors_of root interval corners entry) ≤ 21
  at_most_21 entry h = omega (arith, at_most entry)

-- ---- which edges

module _ (n entry : ℕ) (listed : entry < n) where
  -- an edge after the entry edge is listed and is not the entry edge
  pub another : (k : ℕ) → k < n - 1 → (after_entry n entry k < n) × (after_entry n entry k ≡ entry → ⊥)
  unfolding after_entry
  another k h = ⊎_elim (λ c. omega arith) (λ c. omega arith) (wrapped_cases n (entry + 1 + k))

  apart_from : (j k : ℕ) → j < k → k < n - 1 → after_entry n entry j ≡ after_entry n entry k → ⊥
  unfolding after_entry
  apart_from j k l h e =
      ⊎_elim (λ c. ⊎_elim (λ d. omega arith) (λ d. omega arith) (wrapped_cases n (entry + 1 + k)))
      (λ c. ⊎_elim (λ d. omega arith) (λ d. omega arith) (wrapped_cases n (entry + 1 + k)))
      (wrapped_cases n (entry + 1 + j))

  reached : (i : ℕ) → i < n → (i ≡ entry → ⊥) → (k : ℕ) × (k < n - 1) × (after_entry n entry k ≡ i)
  reached i h other = go (ltb entry i) refl
    where
      go : (t : Bool) → ltb entry i ≡ t → (k : ℕ) × (k < n - 1) × (after_entry n entry k ≡ i)
      go true e =
          let l = ltb-true entry i e in
          let back : entry + 1 + (i - entry - 1) ≡ i = omega arith in
          (i - entry - 1, omega arith, sym (up_to_the_last n entry (i - entry - 1) (omega arith)) ∙ back)
      go false e =
          let l = ltb-false entry i e in
          let s : i < entry = omega arith in
          let back : i + (n - entry - 1) - (n - entry - 1) ≡ i = omega arith in
          (i + (n - entry - 1), omega arith, sym (from_the_first n entry (i + (n - entry - 1)) listed (omega arith)) ∙ back)

  next_one : 2 ≤ n → after_entry n entry 0 ≡ wrapped n (entry + 1)
  unfolding after_entry
  next_one h = ap (wrapped n) (omega arith)

  place : (k : ℕ) → k < n - 1 → get_or (edges_from n entry 0 (n - 1)) k 0 ≡ after_entry n entry k
  place k h = edge_at n entry 0 (n - 1) k h ∙ ap (after_entry n entry) (omega arith)

  pub visits_the_others_once : VisitsTheOthersOnce n entry (others n entry)
  unfolding others
  visits_the_others_once =
      let e = length_edges n entry 0 (n - 1) in
      record {
        begins_after = λ h. place 0 (omega arith) ∙ next_one h;
        as_many = e;
        others_only = λ k h. let l : k < n - 1 = omega arith in rw (place k l) (another k l);
        each = λ i h other. let r = reached i h other in (r.0, omega (arith, r.1), place r.0 r.1 ∙ r.2);
        none_twice = λ j k l h same.
            let m : k < n - 1 = omega arith in
            let o : j < n - 1 = omega arith in
            apart_from j k l m (sym (place j o) ∙ same ∙ place k m);
      }
