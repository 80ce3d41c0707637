-- Record by record: what the judge's loop keeps, that it holds at the seed, and that a found step carries it on. Rests on the judge turn by turn
-- (route, proofs/Turns) and on it that steps lead to nodes that stand on the floor (steps, proofs/Stands). Assumes nothing.
use Prim.Native.Nat.{ℕ, ◌+◌, ◌-◌, ◌*◌, ◌/◌, ◌≤◌, ◌<◌}
use native.Mathlib.Omega.{arith}
use mathlib.Core.Path.{◌≡◌, refl, sym, ap, ◌∙◌, subst}
use mathlib.Core.Bool.{Bool, true, false, cond}
use mathlib.Core.List.{List}
use lib.ListN.{length}
use Rattle.point.specs.declared.Point.{Point}
use Rattle.point.specs.Point.{same_of}
use Rattle.plan.specs.Plan.{polygon_count_in}
use Rattle.stored.specs.Stored.{Floor, vertices_of, floor_in}
use Rattle.edges.specs.Ground.{Ground}
use Rattle.route.specs.declared.Step.{Step}
use Rattle.std.specs.Prelude.{Some, None, Err}
use Rattle.route.specs.declared.Fault.TheVariants.{NotStep}
use Rattle.route.specs.World.{World}
use Rattle.route.specs.Record.{record_at, seed_bytes}
use Rattle.route.specs.Judge.{length_right, same_bytes, find_step, judge_from, judge_of}
use Rattle.route.proofs.Find.{find_found}
use Rattle.route.proofs.Turns.{length_gives, begins, goes_on_to, stops_at, ends_at}
use Rattle.steps.specs.declared.Node.{Node}
use Rattle.steps.specs.declared.Trip.{Trip}
use Rattle.steps.specs.Steps.{root_after, steps_from, seed_node, enter}
use Rattle.steps.specs.World.{world_in}
use Rattle.going.specs.Going.{Stands}
use Rattle.going.proofs.Stands.{seed_stands, enter_stands}
use Rattle.judge.specs.Verdict.{end_of}
use Rattle.judge.proofs.Ending.{end_in_world}

-- ---- how many points a node has

pub seed_points : (start : Point) (p : ℕ) → (seed_node start p).points ≡ 0
unfolding seed_node
seed_points start p = refl

-- a step adds a point at most
pub few_points : (vertices : List Point) (node : Node) (t : Step) → (enter vertices node t).points ≤ node.points + 1
unfolding enter
few_points vertices node t = go (same_of (root_after vertices node t.kind) node.root)
  where
    go : (b : Bool) → cond b node.points (node.points + 1) ≤ node.points + 1
    go true = omega arith
    go false = omega arith

-- ---- what the loop keeps

-- The records before record i lead to this node, which stands on the floor and has fewer points than there are records; what is to be judged is the rest.
pub record Follows (plan vs ps : List ℕ) (trip : Trip) (file : List ℕ) (last : ℕ) (node : Node) (i : ℕ) : Type 0 where
  pub begun : 1 ≤ i
  pub upto : i ≤ last
  pub few : last ≤ 4096
  pub is_last : last ≡ length file / 32 - 1
  pub inside : (last + 1) * 32 ≤ length file
  pub stands : Stands plan vs ps node
  pub points : node.points + 1 ≤ i
  pub same : let w = world_in (floor_in plan vs ps) trip in judge_of w file ≡ judge_from w file node i (last - i)

module _ {plan vs ps : List ℕ} (g : Ground plan vs ps) (trip : Trip) (file : List ℕ) where
  abbrev f : Floor
  f = floor_in plan vs ps

  abbrev w : World Node
  w = world_in f trip

  pub follows_begin : (last : ℕ) → last ≡ length file / 32 - 1 → trip.from < polygon_count_in plan → length_right file ≡ true
      → same_bytes (record_at file 0) (seed_bytes trip.from trip.start) ≡ true → {node : Node} → node ≡ seed_node trip.start trip.from
      → Follows plan vs ps trip file last node 1
  unfolding world_in
  follows_begin last is_last listed right seeded e =
      let g' = length_gives file right in
      let n : length file / 32 ≡ last + 1 = omega arith in
      subst (λ (x : Node). Follows plan vs ps trip file last x 1) (sym e)
      (record {
        begun = omega arith;
        upto = omega arith;
        few = omega arith;
        is_last = is_last;
        inside = omega arith;
        stands = seed_stands plan vs ps g trip.start trip.from listed;
        points = omega (arith, seed_points trip.start trip.from);
        same = begins w file right seeded last n;
      })

  module _ {last : ℕ} {node : Node} {i : ℕ} (h : Follows plan vs ps trip file last node i) where
    pub follows_on : (t : Step) {next : Node} → i < last → find_step (steps_from f trip.to node) (record_at file i) ≡ Some t
        → next ≡ enter (vertices_of vs) node t → Follows plan vs ps trip file last next (i + 1)
    unfolding world_in
    follows_on t l e k =
        subst (λ (n : Node). Follows plan vs ps trip file last n (i + 1)) (sym k)
        (record {
          begun = omega arith;
          upto = omega arith;
          few = h.few;
          is_last = h.is_last;
          inside = h.inside;
          stands = enter_stands plan vs ps g trip.to node h.stands t (find_found (steps_from f trip.to node) (record_at file i) t e).0;
          points = omega (arith, few_points (vertices_of vs) node t, h.points);
          same = h.same ∙ goes_on_to w file node i last t l e;
        })

    pub follows_stops : i < last → find_step (steps_from f trip.to node) (record_at file i) ≡ None → judge_of w file ≡ Err (NotStep i)
    unfolding world_in
    follows_stops l e = h.same ∙ stops_at w file node i last l e

    pub follows_ends : last ≤ i → judge_of w file ≡ end_of trip node file last
    follows_ends l =
        let n : i ≡ last = omega (arith, h.upto) in
        h.same ∙ ends_at w file node i last l ∙ end_in_world trip node file i f ∙ ap (end_of trip node file) n
