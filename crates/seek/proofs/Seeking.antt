-- A record is sought among the steps of a node by one walk round its polygon: what one part of an edge decides, what one edge decides, and what is left to the
-- edges after it. Rests on the laws of the walk (going, proofs/Left and Parts). Assumes nothing.
use Prim.Native.Nat.{ℕ, ◌+◌, ◌≤◌, ◌<◌}
use mathlib.Core.Path.{◌≡◌, refl, sym, ap, ap₂, ◌∙◌, subst}
use mathlib.Core.Bool.{Bool, true, false, not, cond, ◌&&◌, ◌||◌}
use mathlib.Core.List.{List, [], ◌∷◌, ◌++◌}
use borrow.Author.Tests.{eq-eqb, ne_eqb}
use lib.Dec.{eqb}
use Rattle.std.specs.Prelude.{Option, Some, None}
use Rattle.point.specs.declared.Point.{Point}
use Rattle.point.specs.declared.Segment.{Segment}
use Rattle.point.specs.Point.{same_of}
use Rattle.cone.specs.Cone.{clip_to_cone_of}
use Rattle.cut.specs.declared.SuccessorType.{SuccessorType}
use Rattle.walk.specs.declared.Walked.{Walked}
use Rattle.walk.specs.declared.Part.{Part}
use Rattle.walk.specs.declared.Successor.{Successor}
use Rattle.walk.specs.declared.round.Round.{Round}
use Rattle.walk.specs.Walk.{parts_of, part_at}
use Rattle.walk.specs.Round.{successors_on}
use Rattle.walk.specs.Turns.{is_over_of, edge_number_of, next_of}
use Rattle.plan.specs.Plan.{is_marked}
use Rattle.stored.specs.Stored.{Floor, Polygon, vertices_of, floor_in, record_in, unused, corner, neighbour, corner_after, polygon}
use Rattle.edges.specs.Where.{is_turn}
use Rattle.edges.specs.Ground.{Ground}
use Rattle.route.specs.declared.Step.{Step}
use Rattle.route.specs.Step.{kind_number}
use Rattle.records.specs.Records.{kind_word, polygon_word, first_word, second_word}
use Rattle.steps.specs.declared.Node.{Node}
use Rattle.steps.specs.Steps.{is_interval, is_allowed, root_after, clipped, if_seen, step_of, and_then, steps_over, steps_from}
use Rattle.view.proofs.Seen.{allowed_by_plan}
use Rattle.going.specs.Going.{begin_round, walked_on, left_in, Yielded, Stands, Goes}
use Rattle.going.proofs.Rounds.{edges_left, begin_goes, next_goes, fewer_left, its_polygon}
use Rattle.going.proofs.Left.{left_begin, steps_left_next, left_over}
use Rattle.going.proofs.Parts.{from_part, successor_at, from_next, from_none}
use Rattle.seek.specs.Seek.{is_step_at, is_among, edge_stands, ends_at, part_stands}

-- ---- what a node sees of an interval

module _ (vertices : List Point) (node : Node) (kind : SuccessorType) (interval : Segment) (other : node.seed ≡ false)
    {next : Point} (after : next ≡ root_after vertices node kind) {b : Bool} (same : b ≡ same_of next node.root) where
  pub sees_clipped : {v : Option Segment} → b ≡ true → v ≡ clip_to_cone_of node.root node.interval interval → v ≡ clipped vertices node kind interval
  unfolding clipped
  sees_clipped t e = rw (← after, ← same, t, other) e

  pub sees_whole : b ≡ false → Some interval ≡ clipped vertices node kind interval
  unfolding clipped
  sees_whole t = rw (← after, ← same, t, other)

-- ---- one part of an edge

and_no : (a : Bool) → a && false ≡ false
and_no true = refl
and_no false = refl

or_no : (a : Bool) → a || false ≡ a
or_no true = refl
or_no false = refl

module _ (file : List ℕ) (i : ℕ) where
  permitted_at : Option Step → Bool
  permitted_at (Some s) = is_step_at s file i
  permitted_at None = false

  module _ (q : Polygon) (e : ℕ) (part : Part) where
    abbrev step : Segment → Step
    step interval = record { kind = part.kind; polygon = neighbour q e; first = corner q e; second = corner_after q e; interval = interval }

    abbrev if_interval : Segment → Option Step
    if_interval interval = cond (not (is_interval interval)) None (Some (step interval))

    abbrev ends : Bool
    ends = eqb (first_word file i) (corner q e) && (eqb (second_word file i) (corner_after q e) && eqb (polygon_word file i) (neighbour q e))

    abbrev kinds : Bool
    kinds = eqb (kind_word file i) (kind_number part.kind)

    ends_of : (interval : Segment) (b : Bool) → is_interval interval ≡ b
        → ends && (kinds && ends_at (Some interval) file i) ≡ permitted_at (cond (not b) None (Some (step interval)))
    unfolding permitted_at is_step_at ends_at
    ends_of interval true h = rw h
    ends_of interval false h = rw (h, and_no kinds) (and_no ends)

    seen_of : (seen : Option Segment) → ends && (kinds && ends_at seen file i) ≡ permitted_at (if_seen seen if_interval)
    unfolding permitted_at ends_at
    seen_of (Some interval) = ends_of interval (is_interval interval) refl
    seen_of None = rw (and_no kinds) (and_no ends)

    -- what the code asks of an edge and of a part is what the step over it decides
    asked_is : (wall allowed : Bool) (seen : Option Segment)
        → cond wall false ends && (kinds && (allowed && ends_at seen file i))
        ≡ permitted_at (cond wall None (cond (not allowed) None (if_seen seen if_interval)))
    unfolding permitted_at
    asked_is true allowed seen = refl
    asked_is false true seen = seen_of seen
    asked_is false false seen = rw (and_no kinds) (and_no ends)

  over_is : (f : Floor) (node : Node) (e : ℕ) (part : Part)
      → edge_stands (polygon f node.polygon) e file i && part_stands f.vertices (is_turn f) node part file i
      ≡ permitted_at (step_of f node (record { edge = e; part = part }))
  unfolding edge_stands part_stands step_of
  over_is f node e part =
      let q = polygon f node.polygon in
      asked_is q e part (eqb (neighbour q e) unused) (is_allowed f.vertices (is_turn f) node part.kind)
      (clipped f.vertices node part.kind part.interval)

  -- ---- some steps first

  among_first : (p : Option Step) (rest : List Step) → is_among (and_then p rest) file i ≡ permitted_at p || is_among rest file i
  unfolding is_among permitted_at
  among_first (Some s) rest = refl
  among_first None rest = refl

  among_none : is_among [] file i ≡ false
  unfolding is_among
  among_none = refl

  among_both : (xs ys : List Step) → is_among (xs ++ ys) file i ≡ is_among xs file i || is_among ys file i
  unfolding is_among
  among_both [] ys = refl
  among_both (x ∷ xs) ys = rw (among_both xs ys) (go (is_step_at x file i) (is_among xs file i))
    where
      go : (a b : Bool) → a || (b || is_among ys file i) ≡ (a || b) || is_among ys file i
      go true b = refl
      go false b = refl

-- ---- round the polygon

pub none_in_goal : (f : Floor) (goal : ℕ) (node : Node) (file : List ℕ) (i : ℕ) → node.polygon ≡ goal
    → is_among (steps_from f goal node) file i ≡ false
unfolding steps_from is_among
none_in_goal f goal node file i e = rw (eq-eqb node.polygon goal e)

-- what the loop over the edges keeps: the record is sought among the parts that are left
pub record Sought (plan vs ps : List ℕ) (node : Node) (file : List ℕ) (i goal : ℕ) (round : Round) : Type 0 where
  pub goes : Goes (record_in plan ps node.polygon) node round
  pub left : let f = floor_in plan vs ps in is_among (steps_from f goal node) file i ≡ is_among (steps_over f node (left_in f node round)) file i

module _ (plan vs ps : List ℕ) (node : Node) (h : Stands plan vs ps node) (file : List ℕ) (i : ℕ) where
  abbrev f : Floor
  f = floor_in plan vs ps

  abbrev its : Polygon
  its = record_in plan ps node.polygon

  -- ---- the parts of one edge

  -- over an edge that the record does not name, none of its steps is it
  pub none_over : (edge : ℕ) → edge_stands its edge file i ≡ false → (parts : List Part)
      → is_among (steps_over f node (successors_on edge parts)) file i ≡ false
  unfolding steps_over is_among
  none_over edge n [] = refl
  none_over edge n (part ∷ parts) =
      let first : permitted_at file i (step_of f node (record { edge = edge; part = part })) ≡ false
      = sym (over_is file i f node edge part)
      ∙ rw (its_polygon plan vs ps node h) (ap (λ (b : Bool). b && part_stands f.vertices (is_turn f) node part file i) n) in
      among_first file i (step_of f node (record { edge = edge; part = part })) (steps_over f node (successors_on edge parts))
      ∙ ap₂ ◌||◌ first (none_over edge n parts)

  module _ (g : Ground plan vs ps) (edge : ℕ) (named : edge_stands its edge file i ≡ true) (walked : Walked) (yielded : Yielded walked) where
    abbrev from : ℕ → Bool
    from k = is_among (from_part f node edge walked k) file i

    -- whether the record is the step over the k-th part, as the code asks it
    abbrev here : ℕ → Bool
    here k = part_stands (vertices_of vs) (is_marked plan) node (part_at walked.parts k) file i

    by_plan : (part : Part) → part_stands (vertices_of vs) (is_marked plan) node part file i ≡ part_stands (vertices_of vs) (is_turn f) node part file i
    unfolding part_stands
    by_plan part = rw (allowed_by_plan g node h.first_listed h.second_listed part.kind)

    here_is : (k : ℕ) → here k ≡ permitted_at file i (step_of f node (successor_at edge walked k))
    here_is k =
        let part = part_at walked.parts k in
        by_plan part
        ∙ ap (λ (b : Bool). b && part_stands f.vertices (is_turn f) node part file i) (sym named)
        ∙ rw (← its_polygon plan vs ps node h) (over_is file i f node edge part)

    next_is : (k : ℕ) → k < walked.count → from k ≡ here k || from (k + 1)
    next_is k l =
        ap (λ (steps : List Step). is_among steps file i) (from_next f node edge walked yielded k l)
        ∙ among_first file i (step_of f node (successor_at edge walked k)) (from_part f node edge walked (k + 1))
        ∙ ap (λ (b : Bool). b || from (k + 1)) (sym (here_is k))

    none_from : (k : ℕ) → walked.count ≤ k → from k ≡ false
    none_from k l = ap (λ (steps : List Step). is_among steps file i) (from_none f node edge walked yielded k l) ∙ among_none file i

    module _ (k : ℕ) (inv : from 0 ≡ from k) where
      pub part_found : k < walked.count → here k ≡ true → from 0 ≡ true
      part_found l t = inv ∙ next_is k l ∙ ap (λ (b : Bool). b || from (k + 1)) t

      pub part_passed : k < walked.count → here k ≡ false → from 0 ≡ from (k + 1)
      part_passed l t = inv ∙ next_is k l ∙ ap (λ (b : Bool). b || from (k + 1)) t

      pub parts_passed : walked.count ≤ k → from 0 ≡ false
      parts_passed l = inv ∙ none_from k l

      -- the last part decides
      pub part_decides : k < walked.count → walked.count ≤ k + 1 → from 0 ≡ here k
      part_decides l m = inv ∙ next_is k l ∙ ap (λ (b : Bool). here k || b) (none_from (k + 1) m) ∙ or_no (here k)

  -- ---- the edges

  module _ (goal : ℕ) where
    abbrev SoughtOn : Round → Type 0
    SoughtOn = Sought plan vs ps node file i goal

    pub seeking_begins : (node.polygon ≡ goal → ⊥) → {round : Round} → round ≡ begin_round its node → SoughtOn round
    unfolding steps_from
    seeking_begins n b =
        subst SoughtOn (sym b)
        (record { goes = begin_goes plan vs ps node h; left = rw (ne_eqb node.polygon goal n, left_begin plan vs ps node h) })

    module _ (round : Round) (sought : SoughtOn round) where
      pub seeking_ends : is_over_of round ≡ true → is_among (steps_from f goal node) file i ≡ false
      unfolding steps_over
      seeking_ends o =
          sought.left ∙ ap (λ (l : List Successor). is_among (steps_over f node l) file i) (left_over plan vs ps node h round o) ∙ among_none file i

      module _ (on : is_over_of round ≡ false) where
        abbrev walked : Walked
        walked = walked_on f node round

        abbrev here_on : Bool
        here_on = is_among (steps_over f node (successors_on (edge_number_of round) (parts_of walked))) file i

        -- what is left, the round's edge first
        edge_first : is_among (steps_from f goal node) file i ≡ here_on || is_among (steps_over f node (left_in f node (next_of round walked.kind))) file i
        edge_first =
            sought.left
            ∙ ap (λ (l : List Step). is_among l file i) (steps_left_next plan vs ps node h round sought.goes on)
            ∙ among_both file i (steps_over f node (successors_on (edge_number_of round) (parts_of walked)))
            (steps_over f node (left_in f node (next_of round walked.kind)))

        pub edge_found : here_on ≡ true → is_among (steps_from f goal node) file i ≡ true
        edge_found t = rw (edge_first, t)

        pub edge_passed : here_on ≡ false → {next : Round} → next ≡ next_of round walked.kind → SoughtOn next
        edge_passed t n =
            subst SoughtOn (sym n)
            (record { goes = next_goes plan vs ps node h round sought.goes on walked.kind; left = rw (edge_first, t) })

        pub edge_fewer : {next : Round} → next ≡ next_of round walked.kind → edges_left next < edges_left round
        edge_fewer n = subst (λ (r : Round). edges_left r < edges_left round) (sym n) (fewer_left plan vs ps node h round sought.goes on walked.kind)
