-- The step with a number is found by one walk round the node's polygon: what one part of an edge decides, what one edge decides, and what is left to the edges
-- after it. Rests on the laws of the walk (going, proofs/Left and Stepping). Assumes nothing.
use Prim.Native.Nat.{ℕ, zero, suc, ◌-◌, ◌≤◌, ◌<◌}
use native.Mathlib.Omega.{arith}
use mathlib.Core.Path.{◌≡◌, refl, ap, ◌∙◌}
use mathlib.Core.Bool.{true, false}
use mathlib.Core.List.{List, [], ◌∷◌, ◌++◌}
use borrow.Author.Tests.{eq-eqb, ne_eqb}
use lib.ListN.{drop}
use Rattle.std.specs.Prelude.{Option, Some, None, Result, Ok, Err}
use Rattle.walk.specs.declared.Part.{Part}
use Rattle.walk.specs.declared.Walked.{Walked}
use Rattle.walk.specs.declared.round.Round.{Round}
use Rattle.walk.specs.Walk.{parts_of, part_at}
use Rattle.walk.specs.declared.Successor.{Successor}
use Rattle.walk.specs.Round.{successors_on}
use Rattle.walk.specs.Turns.{is_over_of, edge_number_of, next_of}
use Rattle.stored.specs.Stored.{Floor, Polygon, vertices_of, floor_in, record_in}
use Rattle.route.specs.declared.Step.{Step}
use Rattle.steps.specs.declared.Node.{Node}
use Rattle.view.specs.declared.View.{View}
use Rattle.steps.specs.Steps.{step_of, and_then, steps_over, steps_from}
use Rattle.view.specs.View.{view_of, step_by}
use Rattle.plan.specs.Plan.{is_marked}
use Rattle.edges.specs.Ground.{Ground}
use Rattle.going.specs.Going.{begin_round, walked_on, left_in, Yielded, Stands, Goes}
use Rattle.going.proofs.Left.{next_part, no_part_lem, left_begin, steps_left_next, left_over}
use Rattle.going.proofs.Stepping.{step_on}
use Rattle.steps_c.specs.Kth.{kth, counted_of, further, counted_on}

-- ---- some steps first

abbrev among : Result Step ℕ → List Step → Option Step
among (Ok s) rest = Some s
among (Err k) rest = kth rest k

kth_first : (p : Option Step) (rest : List Step) (k : ℕ) → kth (and_then p rest) k ≡ among (counted_of p k) rest
unfolding kth counted_of
kth_first (Some s) rest zero = refl
kth_first (Some s) rest (suc k) =
    let e : suc k - 1 ≡ k = omega arith in
    rw (ne_eqb (suc k) 0 (λ z. omega arith), e)
kth_first None rest k = refl

-- a count over some steps goes on in those behind them
kth_both : (p : Option Step) (xs ys : List Step) (next : ℕ → Result Step ℕ) → ((k : ℕ) → kth (xs ++ ys) k ≡ among (next k) ys) → (k : ℕ)
    → kth (and_then p xs ++ ys) k ≡ among (further (counted_of p k) next) ys
kth_both p xs ys next e k = ap (λ (l : List Step). kth l k) (first p) ∙ kth_first p (xs ++ ys) k ∙ go (counted_of p k)
  where
    first : (p : Option Step) → and_then p xs ++ ys ≡ and_then p (xs ++ ys)
    first (Some s) = refl
    first None = refl

    go : (c : Result Step ℕ) → among c (xs ++ ys) ≡ among (further c next) ys
    go (Ok s) = refl
    go (Err j) = e j

over_none : (f : Floor) (node : Node) (k : ℕ) → kth (steps_over f node []) k ≡ None
unfolding steps_over kth
over_none f node k = refl

-- ---- the parts of one edge

-- what the loop over them keeps: so much is left of the count at part j
abbrev pub Counted-from : Polygon → View → ℕ → Walked → ℕ → ℕ → ℕ → Type 0
Counted-from q view i walked k rest j = counted_on q view i (parts_of walked) k ≡ counted_on q view i (drop j (parts_of walked)) rest

module _ (q : Polygon) (view : View) (i : ℕ) (walked : Walked) (yielded : Yielded walked) (k rest j : ℕ) (inv : Counted-from q view i walked k rest j) where
  pub parts_end : walked.count ≤ j → counted_on q view i (parts_of walked) k ≡ Err rest
  unfolding counted_on
  parts_end l = inv ∙ ap (λ (parts : List Part). counted_on q view i parts rest) (no_part_lem walked yielded j l)

  module _ (l : j < walked.count) (p : Option Step) (counted : Result Step ℕ) (e : p ≡ step_by q view (record { edge = i; part = part_at walked.parts j }))
      (d : counted ≡ counted_of p rest) where
    part_first : counted_on q view i (parts_of walked) k ≡ further counted (counted_on q view i (drop (suc j) (parts_of walked)))
    unfolding counted_on
    part_first = rw (d, e) (inv ∙ ap (λ (parts : List Part). counted_on q view i parts rest) (next_part walked yielded j l))

    pub part_finds : (t : Step) → counted ≡ Ok t → counted_on q view i (parts_of walked) k ≡ Ok t
    part_finds t w = part_first ∙ ap (λ (c : Result Step ℕ). further c (counted_on q view i (drop (suc j) (parts_of walked)))) w

    pub part_goes_on : (behind : ℕ) → counted ≡ Err behind → Counted-from q view i walked k behind (suc j)
    part_goes_on behind w = part_first ∙ ap (λ (c : Result Step ℕ). further c (counted_on q view i (drop (suc j) (parts_of walked)))) w

-- ---- in the goal polygon, and elsewhere

pub none_in_goal : (f : Floor) (goal : ℕ) (node : Node) (k : ℕ) → node.polygon ≡ goal → kth (steps_from f goal node) k ≡ None
unfolding steps_from kth
none_in_goal f goal node k e = rw (eq-eqb node.polygon goal e)

-- what the loop over the edges keeps: the step that is sought is so far among those over the parts that are left
abbrev pub Counted-in : Floor → ℕ → Node → ℕ → Round → ℕ → Type 0
Counted-in f goal node k round left = kth (steps_from f goal node) k ≡ kth (steps_over f node (left_in f node round)) left

module _ (plan vs ps : List ℕ) (node : Node) (h : Stands plan vs ps node) (goal k : ℕ) where
  abbrev f : Floor
  f = floor_in plan vs ps

  abbrev its : Polygon
  its = record_in plan ps node.polygon

  pub counting_begins : (node.polygon ≡ goal → ⊥) → Counted-in f goal node k (begin_round its node) k
  unfolding steps_from
  counting_begins n = rw (ne_eqb node.polygon goal n, left_begin plan vs ps node h)

  -- what the view tells of an edge's parts is what the steps over them are
  module _ (g : Ground plan vs ps) (view : View) (v : view ≡ view_of (vertices_of vs) (is_marked plan) node) (i : ℕ) (ys : List Step) where
    on_edge : (parts : List Part) (left : ℕ) → kth (steps_over f node (successors_on i parts) ++ ys) left
        ≡ among (counted_on its view i parts left) ys
    unfolding counted_on steps_over
    on_edge [] left = refl
    on_edge (part ∷ parts) left =
        rw (step_on plan vs ps node h g view v (record { edge = i; part = part }) _ refl)
        (kth_both (step_of f node (record { edge = i; part = part })) (steps_over f node (successors_on i parts)) ys
        (counted_on its view i parts) (on_edge parts) left)

  module _ (round : Round) (left : ℕ) (inv : Counted-in f goal node k round left) where
    pub counting_ends : is_over_of round ≡ true → kth (steps_from f goal node) k ≡ None
    counting_ends o = inv ∙ ap (λ (l : List Successor). kth (steps_over f node l) left) (left_over plan vs ps node h round o) ∙ over_none f node left

    module _ (g : Ground plan vs ps) (goes : Goes its node round) (on : is_over_of round ≡ false) (view : View)
        (v : view ≡ view_of (vertices_of vs) (is_marked plan) node) (walked : Walked) (w : walked ≡ walked_on f node round)
        (i : ℕ) (n : i ≡ edge_number_of round) (counted : Result Step ℕ)
        (d : counted ≡ counted_on its view i (parts_of walked) left) where
      abbrev behind : List Step
      behind = steps_over f node (left_in f node (next_of round walked.kind))

      -- what is left, the round's edge first
      edge_first : kth (steps_from f goal node) k ≡ among counted behind
      edge_first =
          rw (d, ← on_edge g view v i behind (parts_of walked) left, n, w)
          (inv ∙ ap (λ (l : List Step). kth l left) (steps_left_next plan vs ps node h round goes on))

      pub counting_finds : (t : Step) → counted ≡ Ok t → kth (steps_from f goal node) k ≡ Some t
      counting_finds t e = edge_first ∙ ap (λ (c : Result Step ℕ). among c behind) e

      pub counting_goes_on : (rest : ℕ) → counted ≡ Err rest → (next : Round) → next ≡ next_of round walked.kind
          → Counted-in f goal node k next rest
      counting_goes_on rest e next m = rw m (edge_first ∙ ap (λ (c : Result Step ℕ). among c behind) e)
