-- Demand 3, last half: every route that the search finds and has room to write is a true route, and the judge accepts just its bytes. Assumes nothing.
use Prim.Native.Nat.{ℕ, ◌<◌}
use native.Mathlib.Omega.{arith}
use mathlib.Core.Path.{◌≡◌, refl, sym, ap, ◌∙◌, subst}
use mathlib.Core.Bool.{Bool, true, false, cond}
use mathlib.Core.List.{List, ◌++◌}
use borrow.Author.Tests.{eqb-true}
use lib.Dec.{eqb, ltb}
use lib.ListN.{length, take, drop}
use lib.Seq.{take-append_seam}
use Rattle.std.specs.Prelude.{Result, Ok, Err, Some}
use Rattle.floor.specs.declared.Refusal.{Refusal}
use Rattle.floor.specs.declared.Inside.{Inside}
use Rattle.plan.specs.Plan.{polygon_count_in}
use Rattle.stored.specs.Stored.{Floor, floor_of, floor_in, question_of}
use Rattle.edges.specs.Ground.{Ground}
use Rattle.floor.specs.Look.{look_of}
use Rattle.route.specs.World.{World, TrueRoute}
use Rattle.route.proofs.Verdicts.{accepted_exactly}
use Rattle.steps.specs.declared.Node.{Node}
use Rattle.steps.specs.declared.Trip.{Trip}
use Rattle.steps.specs.Steps.{seed_node}
use Rattle.steps.specs.World.{trip_of, world_in}
use Rattle.steps.proofs.World.{lawful}
use Rattle.judge.specs.Verdict.{read_as, judge_if, judged_in, verdict_of}
use Rattle.machine.specs.declared.Task.{Task}
use Rattle.machine.specs.declared.Finish.{Finish}
use Rattle.machine.specs.declared.Finish.TheVariants.{Arrived, Emptied, Filled, Stopped, Crowded}
use Rattle.writing.specs.declared.Answer.TheVariants.{Found, NoPlaces, Short}
use Rattle.places.specs.Layout.{places_in}
use Rattle.machine.specs.Search.{Ending, Rest}
use Rattle.writing.specs.Delivered.{Delivered, delivered_of, written, route_bytes, straight_bytes, finished, delivered}
use Rattle.search.specs.Whole.{Lent, lent_of, Searched, searched_of, if_inside, with_lent, routed, between_of, search_of}
use Rattle.machine.proofs.Kept.{Arrives}
use Rattle.machine.proofs.Turning.{Finishes}
use Rattle.search.proofs.Found.{route_is_true, straight_is_true}
use Rattle.promises.specs.Promises.{FoundIsAccepted}
use Rattle.promises.proofs.Ends.{task_for, close_for, rest_for, sound_end, its_ground, its_start, by_slots}

-- ---- what is written

module _ (w : World Node) (bytes : List ℕ) (true-route : TrueRoute w bytes) where
  written_is_true : (counted : ℕ) (out : List ℕ) (steps n : ℕ) → (written bytes counted out).answer ≡ Found steps n
      → TrueRoute w (take n (written bytes counted out).out)
  unfolding written
  written_is_true counted out steps n = go (ltb (length out) (length bytes))
    where
      go : (b : Bool)
          → (cond {A = Delivered} b (delivered_of (Short counted) out) (delivered_of (Found counted (length bytes)) (bytes ++ drop (length bytes) out))).answer
          ≡ Found steps n
          → TrueRoute w (take n
          (cond {A = Delivered} b (delivered_of (Short counted) out) (delivered_of (Found counted (length bytes)) (bytes ++ drop (length bytes) out))).out)
      go true e = let z : ◌≡◌ {A = ℕ} 0 1 = cc in absurd (omega arith)
      go false e =
          let k : length bytes ≡ n = cc in
          subst (TrueRoute w)
          (sym (ap (λ (m : ℕ). take m (bytes ++ drop (length bytes) out)) (sym k) ∙ take-append_seam bytes (drop (length bytes) out))) true-route

-- ---- what is found

module _ {plan vs ps : List ℕ} (g : Ground plan vs ps) (trip : Trip) (listed : trip.from < polygon_count_in plan) (lent : Lent) (budget : ℕ)
    (out : List ℕ) where
  abbrev f : Floor
  f = floor_in plan vs ps

  abbrev world : World Node
  world = world_in f trip

  abbrev task : Task
  task = task_for trip lent.work

  abbrev seed : Node
  seed = seed_node trip.start trip.from

  abbrev left : Rest
  left = rest_for f trip budget lent

  abbrev end : Ending
  end = left.end

  module _ (places : eqb (places_in lent.work) 0 ≡ false) where
    sound : Finishes plan vs ps task seed g (close_for f trip budget lent)
    sound = sound_end lent places g trip listed budget

    -- however the search ended
    by_finish : (finish : Finish) → Arrives plan vs ps task seed g end.state (Some finish) → (counted steps n : ℕ)
        → (finished end.state.work trip finish counted out).answer ≡ Found steps n
        → TrueRoute world (take n (finished end.state.work trip finish counted out).out)
    by_finish (Arrived i) at counted steps n e =
        written_is_true world (route_bytes end.state.work trip i) (route_is_true plan vs ps task end.state sound.sound i at.0 at.1) counted out
        steps n e
    by_finish Emptied at counted steps n e = let z : ◌≡◌ {A = ℕ} 0 1 = cc in absurd (omega arith)
    by_finish Filled at counted steps n e = let z : ◌≡◌ {A = ℕ} 0 1 = cc in absurd (omega arith)
    by_finish Stopped at counted steps n e = let z : ◌≡◌ {A = ℕ} 0 1 = cc in absurd (omega arith)
    by_finish Crowded at counted steps n e = let z : ◌≡◌ {A = ℕ} 0 1 = cc in absurd (omega arith)

    told_is_true : (steps n : ℕ) → (delivered trip end out).answer ≡ Found steps n → TrueRoute world (take n (delivered trip end out).out)
    unfolding delivered
    told_is_true steps n e = by_finish end.finish sound.arrives end.state.counts.pops steps n e

    routed_is_true : (steps n : ℕ) → (routed f task budget lent out).answer ≡ Found steps n → TrueRoute world (take n (routed f task budget lent out).out)
    unfolding routed
    routed_is_true steps n = go (eqb trip.from trip.to) refl
      where
        straight : Delivered
        straight = written (straight_bytes trip) 0 out

        around : Delivered
        around = delivered trip end out

        go : (b : Bool) → eqb trip.from trip.to ≡ b
            → (cond {A = Searched} b (with_lent lent straight) (with_lent (lent_of end.state.work left.table) around)).answer ≡ Found steps n
            → TrueRoute world (take n (cond {A = Searched} b (with_lent lent straight) (with_lent (lent_of end.state.work left.table) around)).out)
        go true same e =
            written_is_true world (straight_bytes trip) (straight_is_true plan vs ps task (eqb-true trip.from trip.to same)) 0 out steps n e
        go false same e = told_is_true steps n e

  between_is_true : (steps n : ℕ) → (between_of f trip budget lent out).answer ≡ Found steps n
      → TrueRoute world (take n (between_of f trip budget lent out).out)
  unfolding between_of
  between_is_true steps n = go (eqb (places_in lent.work) 0) refl
    where
      go : (b : Bool) → eqb (places_in lent.work) 0 ≡ b
          → (cond {A = Searched} b (searched_of NoPlaces lent out) (routed f task budget lent out)).answer ≡ Found steps n
          → TrueRoute world (take n (cond {A = Searched} b (searched_of NoPlaces lent out) (routed f task budget lent out)).out)
      go true same e = let z : ◌≡◌ {A = ℕ} 0 1 = cc in absurd (omega arith)
      go false same e = routed_is_true same steps n e

-- ---- the promise

pub found_is_accepted : (s : ℕ) (vs ps question : List ℕ) (budget : ℕ) (lent : Lent) → FoundIsAccepted s vs ps question budget lent
unfolding search_of verdict_of
found_is_accepted s vs ps question budget lent some few bytes out steps n = go (look_of s vs ps question) refl
  where
    trip : ℕ → ℕ → Trip
    trip from to = trip_of (question_of question) from to

    found : Result Inside Refusal → Searched
    found look = if_inside look lent out (λ from to. between_of (floor_of s vs ps) (trip from to) budget lent out)

    -- where it finds a route, that is a true one, of the floor with so many slots
    IsTrue : ℕ → ℕ → ℕ → Type 0
    IsTrue from to k =
        let answer = between_of (floor_of k vs ps) (trip from to) budget lent out in
        answer.answer ≡ Found steps n → TrueRoute (world_in (floor_of k vs ps) (trip from to)) (take n answer.out)

    go : (look : Result Inside Refusal) → look_of s vs ps question ≡ look → (found look).answer ≡ Found steps n
        → judge_if look (judged_in (floor_of s vs ps) question (take n (found look).out)) ≡ Ok tt
    go (Ok i) l e =
        let from = i.start in
        let to = i.goal in
        let ground = its_ground s vs ps question some few l in
        let start = its_start s vs ps question some few l in
        let is_true = by_slots s vs ps question some few l (IsTrue from to) (between_is_true ground (trip from to) start lent budget out steps n) in
        ap read_as ((accepted_exactly (lawful s vs ps bytes (trip from to)) _).1 (is_true e))
    go (Err r) l e = let z : ◌≡◌ {A = ℕ} 0 1 = cc in absurd (omega arith)
