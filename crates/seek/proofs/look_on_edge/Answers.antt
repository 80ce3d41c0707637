-- `seek::look_on_edge` meets its contract: part by part, the record is sought among those that are left of the edge. Assumes nothing.
use Rattle.std.proofs.Common.{ℕ, ◌+◌, ◌<◌, ◌≤◌, ◌≡◌, ◌∙◌, refl, sym, ap, subst, Bool, true, false, List, arith}
use mathlib.Core.Path.{ap₂}
use Rattle.walk.specs.declared.Walked.{Walked}
use Rattle.walk.specs.declared.round.Round.{Round}
use Rattle.walk.specs.Walk.{parts_of, part_at}
use Rattle.walk.specs.Round.{successors_on}
use Rattle.walk.specs.Turns.{edge_number_of, next_of}
use Rattle.plan.specs.Plan.{is_marked}
use Rattle.stored.specs.Stored.{Floor, Polygon, record_in, floor_in, vertices_of, edge_of}
use Rattle.edges.specs.Ground.{Ground}
use Rattle.edges.proofs.Held.{ground}
use Rattle.steps.specs.declared.Node.{Node}
use Rattle.steps.specs.Steps.{steps_over}
use Rattle.going.specs.Going.{walk_by, walked_on, Yielded, Stands}
use Rattle.going.proofs.Rounds.{its_polygon, walked_as_on, on_yields, turning}
use Rattle.going.proofs.Stepping.{edge_inside, edge_there}
use Rattle.going.proofs.Parts.{from_part}
use Rattle.seek.specs.Seek.{is_among, edge_stands, part_stands}
use Rattle.seek.proofs.Seeking.{none_over, part_found, part_passed, parts_passed, part_decides}
use Rattle.seek.proofs.look_on_edge.Goals as goal

-- ---- what is known

-- the node's polygon, the edge by its number, and what was walked on it
record Looking (plan vs ps : List ℕ) (node : Node) (round : Round) (q : Polygon) (edge : ℕ) (walked : Walked) : Type 0 where
  stands : Stands plan vs ps node
  ground : Ground plan vs ps
  its : q ≡ record_in plan ps node.polygon
  numbered : edge ≡ edge_number_of round
  walks : walked ≡ walk_by node (edge_of (vertices_of vs) q edge) round.kind

known : {plan vs ps : List ℕ} {node : Node} {round : Round} {q : Polygon} {edge : ℕ} {walked : Walked} → Stands plan vs ps node
    → Ground plan vs ps → q ≡ record_in plan ps node.polygon → edge ≡ edge_number_of round
    → walked ≡ walk_by node (edge_of (vertices_of vs) q edge) round.kind → Looking plan vs ps node round q edge walked
known s g p n w = record { stands = s; ground = g; its = p; numbered = n; walks = w }

module _ {plan vs ps : List ℕ} {node : Node} {round : Round} {q : Polygon} {edge : ℕ} {walked : Walked}
    (looking : Looking plan vs ps node round q edge walked) where
  abbrev f : Floor
  f = floor_in plan vs ps

  -- what the code walks is what the round's edge yields
  is_on : walked ≡ walked_on f node round
  is_on = walked_as_on f node round (looking.its ∙ sym (its_polygon plan vs ps node looking.stands)) looking.numbered looking.walks

  yields : Yielded walked
  yields = subst Yielded (sym is_on) (on_yields f node round)

  next_is : {next : Round} → next ≡ next_of round walked.kind → next ≡ next_of round (walked_on f node round).kind
  next_is e = e ∙ ap (λ (w : Walked). next_of round w.kind) is_on

  module _ (file : List ℕ) (i : ℕ) where
    -- whether the record is among the steps over the edge's parts from the k-th on
    abbrev from : ℕ → Bool
    from k = is_among (from_part f node edge walked k) file i

    -- whether it is the one over the k-th, as the code asks it
    abbrev here : ℕ → Bool
    here k = part_stands (vertices_of vs) (is_marked plan) node (part_at walked.parts k) file i

    -- what the contract says of the edge
    abbrev sought : Bool
    sought = is_among (steps_over f node (successors_on (edge_number_of round) (parts_of (walked_on f node round)))) file i

    as_said : from 0 ≡ sought
    as_said = ap₂ (λ (e : ℕ) (w : Walked). is_among (from_part f node e w 0) file i) looking.numbered is_on

    nowhere : edge_stands q edge file i ≡ false → false ≡ sought
    nowhere n =
        let on = sym (ap (λ (p : Polygon). edge_stands p edge file i) looking.its) ∙ n in
        sym (sym as_said ∙ none_over plan vs ps node looking.stands file i edge on (parts_of walked))

    module _ (stands : edge_stands q edge file i ≡ true) where
      named : edge_stands (record_in plan ps node.polygon) edge file i ≡ true
      named = sym (ap (λ (p : Polygon). edge_stands p edge file i) looking.its) ∙ stands

      found : (k : ℕ) → from 0 ≡ from k → k < walked.count → here k ≡ true → true ≡ sought
      found k inv l t = sym (sym as_said ∙ part_found plan vs ps node looking.stands file i looking.ground edge named walked yields k inv l t)

      passed : (k : ℕ) → from 0 ≡ from k → k < walked.count → here k ≡ false → from 0 ≡ from (k + 1)
      passed k inv l t = part_passed plan vs ps node looking.stands file i looking.ground edge named walked yields k inv l t

      ended : (k : ℕ) → from 0 ≡ from k → walked.count ≤ k → false ≡ sought
      ended k inv l = sym (sym as_said ∙ parts_passed plan vs ps node looking.stands file i looking.ground edge named walked yields k inv l)

      -- the last part decides
      decided : from 0 ≡ from 2 → 2 < walked.count → here 2 ≡ sought
      decided inv l =
          sym (sym as_said ∙ part_decides plan vs ps node looking.stands file i looking.ground edge named walked yields 2 inv l (omega (arith, yields.few)))

      -- the first part is not it, nor is the second
      one_passed : 0 < walked.count → here 0 ≡ false → from 0 ≡ from 1
      one_passed l t = passed 0 refl l t

      two_passed : 0 < walked.count → here 0 ≡ false → 1 < walked.count → here 1 ≡ false → from 0 ≡ from 2
      two_passed l t m u = passed 1 (one_passed l t) m u

-- ---- the edge

pub edge-edge-requires : goal.edge-edge-requires
edge-edge-requires c =
    let t = turning _ _ _ _ c.requires.stands c.args.round c.requires.goes.0 c.requires.goes.1 in (t.entry_in, t.taken_in)

pub is_over-over-requires : goal.is_over-over-requires
is_over-over-requires c =
    rw (c.edge-edge.ensures, c.requires.its) (edge_inside _ _ _ _ c.requires.stands c.args.round c.requires.goes.0 c.requires.goes.1)

pub walk-walked-requires : goal.walk-walked-requires
walk-walked-requires c =
    rw (c.edge-edge.ensures, c.requires.its) (edge_there _ _ _ _ c.requires.stands c.args.round c.requires.goes.0 c.requires.goes.1)

-- ---- its parts, and the round behind it

pub returns-then-not-over-clause-found_value : goal.returns-then-not-over-clause-found_value
returns-then-not-over-clause-found_value c =
    let k = known c.requires.stands (ground c.args.floor.now.accepted) c.requires.its c.edge-edge.ensures c.walk-walked.ensures in
    nowhere k c.args.on_file.route.now c.args.on_file.number (sym c.is_over-over.ensures ∙ c.if-not-over.true)

pub returns-then-not-over-clause-next_value : goal.returns-then-not-over-clause-next_value
returns-then-not-over-clause-next_value c =
    next_is (known c.requires.stands (ground c.args.floor.now.accepted) c.requires.its c.edge-edge.ensures c.walk-walked.ensures) c.next-next.ensures

pub returns-then-walked-lt1-clause-found_value : goal.returns-then-walked-lt1-clause-found_value
returns-then-walked-lt1-clause-found_value c =
    let k = known c.requires.stands (ground c.args.floor.now.accepted) c.requires.its c.edge-edge.ensures c.walk-walked.ensures in
    let named = sym c.is_over-over.ensures ∙ c.if-not-over.false in
    ended k c.args.on_file.route.now c.args.on_file.number named 0 refl (omega (arith, c.if-walked-lt1.true))

pub returns-then-walked-lt1-clause-next_value : goal.returns-then-walked-lt1-clause-next_value
returns-then-walked-lt1-clause-next_value c =
    next_is (known c.requires.stands (ground c.args.floor.now.accepted) c.requires.its c.edge-edge.ensures c.walk-walked.ensures) c.next-next.ensures

pub returns-then-is_part-clause-found_value : goal.returns-then-is_part-clause-found_value
returns-then-is_part-clause-found_value c =
    let k = known c.requires.stands (ground c.args.floor.now.accepted) c.requires.its c.edge-edge.ensures c.walk-walked.ensures in
    let named = sym c.is_over-over.ensures ∙ c.if-not-over.false in
    found k c.args.on_file.route.now c.args.on_file.number named 0 refl (omega (arith, c.if-walked-lt1.false)) (sym c.is_part.ensures ∙ c.if-is_part.true)

pub returns-then-is_part-clause-next_value : goal.returns-then-is_part-clause-next_value
returns-then-is_part-clause-next_value c =
    next_is (known c.requires.stands (ground c.args.floor.now.accepted) c.requires.its c.edge-edge.ensures c.walk-walked.ensures) c.next-next.ensures

pub returns-then-walked-lt2-clause-found_value : goal.returns-then-walked-lt2-clause-found_value
returns-then-walked-lt2-clause-found_value c =
    let k = known c.requires.stands (ground c.args.floor.now.accepted) c.requires.its c.edge-edge.ensures c.walk-walked.ensures in
    let named = sym c.is_over-over.ensures ∙ c.if-not-over.false in
    let one = sym c.is_part.ensures ∙ c.if-is_part.false in
    let passed = one_passed k c.args.on_file.route.now c.args.on_file.number named (omega (arith, c.if-walked-lt1.false)) one in
    ended k c.args.on_file.route.now c.args.on_file.number named 1 passed (omega (arith, c.if-walked-lt2.true))

pub returns-then-walked-lt2-clause-next_value : goal.returns-then-walked-lt2-clause-next_value
returns-then-walked-lt2-clause-next_value c =
    next_is (known c.requires.stands (ground c.args.floor.now.accepted) c.requires.its c.edge-edge.ensures c.walk-walked.ensures) c.next-next.ensures

pub returns-then-is_part-2-clause-found_value : goal.returns-then-is_part-2-clause-found_value
returns-then-is_part-2-clause-found_value c =
    let k = known c.requires.stands (ground c.args.floor.now.accepted) c.requires.its c.edge-edge.ensures c.walk-walked.ensures in
    let named = sym c.is_over-over.ensures ∙ c.if-not-over.false in
    let one = sym c.is_part.ensures ∙ c.if-is_part.false in
    let passed = one_passed k c.args.on_file.route.now c.args.on_file.number named (omega (arith, c.if-walked-lt1.false)) one in
    found k c.args.on_file.route.now c.args.on_file.number named 1 passed (omega (arith, c.if-walked-lt2.false))
    (sym c.is_part-2.ensures ∙ c.if-is_part-2.true)

pub returns-then-is_part-2-clause-next_value : goal.returns-then-is_part-2-clause-next_value
returns-then-is_part-2-clause-next_value c =
    next_is (known c.requires.stands (ground c.args.floor.now.accepted) c.requires.its c.edge-edge.ensures c.walk-walked.ensures) c.next-next.ensures

pub returns-then-walked-lt3-clause-found_value : goal.returns-then-walked-lt3-clause-found_value
returns-then-walked-lt3-clause-found_value c =
    let k = known c.requires.stands (ground c.args.floor.now.accepted) c.requires.its c.edge-edge.ensures c.walk-walked.ensures in
    let named = sym c.is_over-over.ensures ∙ c.if-not-over.false in
    let one = sym c.is_part.ensures ∙ c.if-is_part.false in
    let two = sym c.is_part-2.ensures ∙ c.if-is_part-2.false in
    let passed = two_passed k c.args.on_file.route.now c.args.on_file.number named (omega (arith, c.if-walked-lt1.false)) one
    (omega (arith, c.if-walked-lt2.false)) two in
    ended k c.args.on_file.route.now c.args.on_file.number named 2 passed (omega (arith, c.if-walked-lt3.true))

pub returns-then-walked-lt3-clause-next_value : goal.returns-then-walked-lt3-clause-next_value
returns-then-walked-lt3-clause-next_value c =
    next_is (known c.requires.stands (ground c.args.floor.now.accepted) c.requires.its c.edge-edge.ensures c.walk-walked.ensures) c.next-next.ensures

pub returns-clause-found_value : goal.returns-clause-found_value
returns-clause-found_value c =
    let k = known c.requires.stands (ground c.args.floor.now.accepted) c.requires.its c.edge-edge.ensures c.walk-walked.ensures in
    let named = sym c.is_over-over.ensures ∙ c.if-not-over.false in
    let one = sym c.is_part.ensures ∙ c.if-is_part.false in
    let two = sym c.is_part-2.ensures ∙ c.if-is_part-2.false in
    let passed = two_passed k c.args.on_file.route.now c.args.on_file.number named (omega (arith, c.if-walked-lt1.false)) one
    (omega (arith, c.if-walked-lt2.false)) two in
    c.is_part-found.ensures ∙ decided k c.args.on_file.route.now c.args.on_file.number named passed (omega (arith, c.if-walked-lt3.false))

pub returns-clause-next_value : goal.returns-clause-next_value
returns-clause-next_value c =
    next_is (known c.requires.stands (ground c.args.floor.now.accepted) c.requires.its c.edge-edge.ensures c.walk-walked.ensures) c.next-next.ensures
