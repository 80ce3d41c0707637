-- Room is the only reason for 13: with 32 bytes for each place and 32 more it never comes, and a larger output gets the same route. Assumes nothing.
use Prim.Native.Nat.{ℕ, ◌+◌, ◌*◌, ◌≤◌, ◌<◌}
use native.Mathlib.Omega.{arith}
use mathlib.Core.Path.{◌≡◌, refl, sym, ap, ◌∙◌}
use mathlib.Core.Bool.{Bool, true, false, cond}
use mathlib.Core.List.{List, ◌++◌}
use borrow.Author.Tests.{ltb-true}
use lib.Dec.{eqb, ltb}
use lib.ListN.{length, drop}
use Rattle.word.specs.Word.{Bytes}
use Rattle.std.specs.Prelude.{Some, Result, Ok, Err}
use Rattle.floor.specs.declared.Refusal.{Refusal}
use Rattle.floor.specs.declared.Inside.{Inside}
use Rattle.plan.specs.Plan.{slots_in, polygon_count_in}
use Rattle.stored.specs.Stored.{Floor, floor_of, floor_in, question_of}
use Rattle.edges.specs.Ground.{Ground}
use Rattle.floor.specs.Look.{look_of}
use Rattle.steps.specs.declared.Node.{Node}
use Rattle.steps.specs.declared.Trip.{Trip}
use Rattle.steps.specs.Steps.{seed_node}
use Rattle.steps.specs.World.{trip_of}
use Rattle.steps.proofs.World.{lawful}
use Rattle.machine.specs.declared.Task.{Task}
use Rattle.machine.specs.declared.Finish.{Finish}
use Rattle.machine.specs.declared.Finish.TheVariants.{Arrived, Emptied, Filled, Stopped, Crowded}
use Rattle.writing.specs.declared.Answer.TheVariants.{Found, NoPlaces, Short}
use Rattle.places.specs.Layout.{places_in}
use Rattle.machine.specs.Search.{Ending, Rest}
use Rattle.writing.specs.Delivered.{Delivered, delivered_of, written, route_bytes, straight_bytes, finished, delivered}
use Rattle.search.specs.Whole.{Lent, lent_of, Searched, searched_of, if_inside, with_lent, routed, between_of, search_of}
use Rattle.machine.proofs.Kept.{Arrives}
use Rattle.machine.proofs.Turning.{Finishes}
use Rattle.search.proofs.Found.{route_long, straight_long}
use Rattle.promises.specs.Promises.{WideIsNeverShort, LargerOutputSame}
use Rattle.promises.proofs.Ends.{task_for, close_for, rest_for, at_least_one, sound_end, its_ground, its_start, by_slots}
use Rattle.promises.proofs.Output.{search_tells, found_tells, route_fits, route_front}

-- ---- what is written

short_written : (bytes : List ℕ) (most : ℕ) → length bytes ≤ 32 * (most + 1) → (counted : ℕ) (out : List ℕ) (steps : ℕ)
    → 32 * (most + 1) ≤ length out → (written bytes counted out).answer ≡ Short steps → ⊥
unfolding written
short_written bytes most few counted out steps room = go (ltb (length out) (length bytes)) refl
  where
    go : (b : Bool) → ltb (length out) (length bytes) ≡ b
        → (cond {A = Delivered} b (delivered_of (Short counted) out) (delivered_of (Found counted (length bytes)) (bytes ++ drop (length bytes) out))).answer
        ≡ Short steps → ⊥
    go true l e = let h = ltb-true (length out) (length bytes) l in omega arith
    go false l e = let z : ◌≡◌ {A = ℕ} 0 1 = cc in omega arith

-- ---- what is found

module _ {plan vs ps : List ℕ} (g : Ground plan vs ps) (bytes : Bytes ps) (trip : Trip) (listed : trip.from < polygon_count_in plan) (lent : Lent) (budget : ℕ)
    (out : List ℕ) (wide : 32 * (places_in lent.work + 1) ≤ length out) where
  abbrev f : Floor
  f = floor_in plan vs ps

  abbrev task : Task
  task = task_for trip lent.work

  abbrev seed : Node
  seed = seed_node trip.start trip.from

  abbrev left : Rest
  left = rest_for f trip budget lent

  abbrev end : Ending
  end = left.end

  module _ (places : eqb (places_in lent.work) 0 ≡ false) where
    sound : Finishes plan vs ps task seed g (close_for f trip budget lent)
    sound = sound_end lent places g trip listed budget

    by_finish : (finish : Finish) → Arrives plan vs ps task seed g end.state (Some finish) → (counted steps : ℕ)
        → (finished end.state.work trip finish counted out).answer ≡ Short steps → ⊥
    by_finish (Arrived i) at counted steps e =
        let long = route_long plan vs ps task end.state sound.sound (lawful (slots_in plan) vs ps bytes trip) i at.0 in
        let h = (sound.sound.held i at.0).depth_few in
        let few : length (route_bytes end.state.work trip i) ≤ 32 * (places_in lent.work + 1) = omega (arith, long, h, at.0, sound.sound.taken_in) in
        short_written (route_bytes end.state.work trip i) (places_in lent.work) few counted out steps wide e
    by_finish Emptied at counted steps e = let z : ◌≡◌ {A = ℕ} 0 1 = cc in omega arith
    by_finish Filled at counted steps e = let z : ◌≡◌ {A = ℕ} 0 1 = cc in omega arith
    by_finish Stopped at counted steps e = let z : ◌≡◌ {A = ℕ} 0 1 = cc in omega arith
    by_finish Crowded at counted steps e = let z : ◌≡◌ {A = ℕ} 0 1 = cc in omega arith

    routed_wide : (steps : ℕ) → (routed f task budget lent out).answer ≡ Short steps → ⊥
    unfolding routed delivered
    routed_wide steps = go (eqb trip.from trip.to)
      where
        straight : Delivered
        straight = written (straight_bytes trip) 0 out

        around : Delivered
        around = finished end.state.work trip end.finish end.state.counts.pops out

        go : (b : Bool) → (cond {A = Searched} b (with_lent lent straight) (with_lent (lent_of end.state.work left.table) around)).answer ≡ Short steps → ⊥
        go true e =
            let one = at_least_one lent.work places in
            let few : length (straight_bytes trip) ≤ 32 * (places_in lent.work + 1) = omega (arith, straight_long plan vs ps task, one) in
            short_written (straight_bytes trip) (places_in lent.work) few 0 out steps wide e
        go false e = by_finish end.finish sound.arrives end.state.counts.pops steps e

  between_wide : (steps : ℕ) → (between_of f trip budget lent out).answer ≡ Short steps → ⊥
  unfolding between_of
  between_wide steps = go (eqb (places_in lent.work) 0) refl
    where
      go : (b : Bool) → eqb (places_in lent.work) 0 ≡ b → (cond {A = Searched} b (searched_of NoPlaces lent out) (routed f task budget lent out)).answer
          ≡ Short steps → ⊥
      go true same e = let z : ◌≡◌ {A = ℕ} 0 1 = cc in omega arith
      go false same e = routed_wide same steps e

pub wide_is_never_short : (s : ℕ) (vs ps question : List ℕ) (budget : ℕ) (lent : Lent) → WideIsNeverShort s vs ps question budget lent
unfolding search_of
wide_is_never_short s vs ps question budget lent some few bytes out wide steps = go (look_of s vs ps question) refl
  where
    trip : ℕ → ℕ → Trip
    trip from to = trip_of (question_of question) from to

    go : (look : Result Inside Refusal) → look_of s vs ps question ≡ look
        → (if_inside look lent out (λ from to. between_of (floor_of s vs ps) (trip from to) budget lent out)).answer ≡ Short steps → ⊥
    go (Ok i) l e =
        let from = i.start in
        let to = i.goal in
        let ground = its_ground s vs ps question some few l in
        let start = its_start s vs ps question some few l in
        by_slots s vs ps question some few l (λ (k : ℕ). (between_of (floor_of k vs ps) (trip from to) budget lent out).answer ≡ Short steps → ⊥)
        (between_wide ground bytes (trip from to) start lent budget out wide steps) e
    go (Err r) l e = let z : ◌≡◌ {A = ℕ} 0 1 = cc in omega arith

-- ---- a larger output

pub larger_output_same : (s : ℕ) (vs ps question : List ℕ) (budget : ℕ) (lent : Lent) → LargerOutputSame s vs ps question budget lent
larger_output_same s vs ps question budget lent out wider l steps n e =
    let search = search_of s vs ps question budget lent in
    let told = found_tells search out (search_tells s vs ps question budget lent) steps n e in
    let more : n ≤ length wider = omega (arith, told.1, l) in
    let here = route_fits search out steps n told.0 told.1 in
    let there = route_fits search wider steps n told.0 more in
    record {
      answer_same = ap (λ (x : Searched). x.answer) there ∙ sym (ap (λ (x : Searched). x.answer) here);
      lent_same = ap (λ (x : Searched). x.lent) there ∙ sym (ap (λ (x : Searched). x.lent) here);
      bytes_same = route_front search wider steps n told.0 more ∙ sym (route_front search out steps n told.0 told.1);
    }
