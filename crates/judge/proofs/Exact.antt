-- Demand 3's "exactly", for the judge as it stands: `verdict_exactly` for every verdict, both ways; and by document 01's numbers, of an accepted
-- floor with start and goal inside: 0 exactly for the true routes, each of 20 to 23 exactly in its case with its record, and a file cut short is
-- refused. Rests on the laws of any lawful world (route, proofs/Verdicts and Cut), on this world's being lawful (steps, proofs/World) and on the
-- exact cases of a look (floor, proofs/Exact). Assumes nothing.
use Prim.Native.Nat.{ℕ, ◌<◌}
use mathlib.Core.Path.{◌≡◌, refl, sym, ap, ◌∙◌, subst}
use mathlib.Core.List.{List}
use mathlib.Core.Logic.{◌↔◌}
use lib.ListN.{length}
use Rattle.word.specs.Word.{Bytes}
use Rattle.std.specs.Prelude.{Result, Ok, Err}
use Rattle.floor.specs.declared.Refusal.{Refusal}
use Rattle.floor.specs.declared.Inside.{Inside as LookInside}
use Rattle.stored.specs.Stored.{Floor, floor_of, question_of}
use Rattle.edges.specs.Where.{polygon_of}
use Rattle.floor.specs.Look.{look_of}
use Rattle.floor.proofs.Exact.{in_some, polygon_is_least, least_is_polygon, each_exactly}
use Rattle.route.specs.declared.Fault.{Fault}
use Rattle.route.specs.World.{World, Lawful}
use Rattle.route.specs.Judge.{judge_of}
use Rattle.route.proofs.Verdicts.{judged_exactly}
use Rattle.steps.specs.declared.Node.{Node}
use Rattle.steps.specs.World.{trip_of, world_in, world_of}
use Rattle.steps.proofs.World.{lawful}
use Rattle.judge.specs.declared.Unaccepted.{Unaccepted}
use Rattle.judge.specs.declared.Unaccepted.TheVariants.{Refused, Untrue}
use Rattle.judge.specs.Verdict.{read_as, judge_if, verdict_of}
use Rattle.judge.specs.Exactly.{Inside, Case}

module _ (s : ℕ) (vs ps question : List ℕ) where
  abbrev f : Floor
  f = floor_of s vs ps

  abbrev from : ℕ
  from = polygon_of f (question_of question).start

  abbrev to : ℕ
  to = polygon_of f (question_of question).goal

  abbrev w : World Node
  w = world_of f (question_of question)

  pub world_is_lawful : Bytes ps → Lawful w
  unfolding world_of
  world_is_lawful bytes = lawful s vs ps bytes (trip_of (question_of question) from to)

  -- start and goal inside, as a look finds them
  abbrev both : LookInside
  both = record { start = from; goal = to }

  looks_inside : Inside s vs ps question → look_of s vs ps question ≡ Ok both
  looks_inside h =
      (each_exactly s vs ps question (Ok both)).1 (
        h.sound,
        h.asked,
        polygon_is_least f (question_of question).start ((in_some f (question_of question).start).1 h.start_inside),
        polygon_is_least f (question_of question).goal ((in_some f (question_of question).goal).1 h.goal_inside),
      )

  inside_looks : (i : LookInside) → look_of s vs ps question ≡ Ok i → Inside s vs ps question × (from ≡ i.start) × (to ≡ i.goal)
  inside_looks i e =
      let h = (each_exactly s vs ps question (Ok i)).0 e in
      let start_is = least_is_polygon f (question_of question).start i.start h.2 in
      let goal-is = least_is_polygon f (question_of question).goal i.goal h.3 in (
        record {
          sound = h.0;
          asked = h.1;
          start_inside = (in_some f (question_of question).start).0 (subst (λ (n : ℕ). n < length f.polygons) (sym start_is) h.2.listed);
          goal_inside = (in_some f (question_of question).goal).0 (subst (λ (n : ℕ). n < length f.polygons) (sym goal-is) h.3.listed);
        },
        start_is,
        goal-is,
      )

  module _ (route : List ℕ) where
    -- what the verdict is where start and goal are inside
    pub verdict_inside : Inside s vs ps question → verdict_of s vs ps question route ≡ read_as (judge_of w route)
    unfolding verdict_of world_of
    verdict_inside h = rw (looks_inside h)

    module _ (bytes : Bytes ps) where
      -- a verdict on the file is in its case
      read_given : Inside s vs ps question → (j : Result Unit Fault) → judge_of w route ≡ j → Case s vs ps question route (read_as j)
      read_given i (Ok u) e = (i, (judged_exactly (world_is_lawful bytes) route (Ok tt)).0 e)
      read_given i (Err fault) e = (i, (judged_exactly (world_is_lawful bytes) route (Err fault)).0 e)

      given : Case s vs ps question route (verdict_of s vs ps question route)
      unfolding verdict_of world_of
      given = go (look_of s vs ps question) refl
        where
          go : (l : Result LookInside Refusal) → look_of s vs ps question ≡ l
              → Case s vs ps question route (judge_if l (λ a b. judge_of (world_in f (trip_of (question_of question) a b)) route))
          go (Err r) e = (each_exactly s vs ps question (Err r)).0 e
          go (Ok i) e =
              let h = inside_looks i e in
              let same : judge_of w route ≡ judge_of (world_in f (trip_of (question_of question) i.start i.goal)) route = rw (h.1, h.2) in
              read_given h.0 (judge_of (world_in f (trip_of (question_of question) i.start i.goal)) route) same

      found : (v : Result Unit Unaccepted) → Case s vs ps question route v → verdict_of s vs ps question route ≡ v
      unfolding verdict_of
      found (Ok u) h = verdict_inside h.0 ∙ ap read_as ((judged_exactly (world_is_lawful bytes) route (Ok tt)).1 h.1)
      found (Err (Refused r)) h = rw ((each_exactly s vs ps question (Err r)).1 h)
      found (Err (Untrue fault)) h = verdict_inside h.0 ∙ ap read_as ((judged_exactly (world_is_lawful bytes) route (Err fault)).1 h.1)

      -- Each verdict is given exactly in its case.
      pub verdict_exactly : (v : Result Unit Unaccepted) → verdict_of s vs ps question route ≡ v ↔ Case s vs ps question route v
      verdict_exactly v = ((λ e. subst (Case s vs ps question route) e given), found v)

      -- the cases leave no second verdict
      pub one_verdict : (u v : Result Unit Unaccepted) → Case s vs ps question route u → Case s vs ps question route v → u ≡ v
      one_verdict u v h k = sym (found u h) ∙ found v k
