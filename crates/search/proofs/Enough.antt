-- The bytes of a route that was found fit the output. From the search's definition alone. Assumes nothing.
use Prim.Native.Nat.{ℕ, ◌≤◌}
use native.Mathlib.Omega.{arith}
use mathlib.Core.Path.{◌≡◌, refl}
use mathlib.Core.Bool.{Bool, true, false, cond}
use mathlib.Core.List.{List, ◌++◌}
use borrow.Author.Tests.{ltb-false}
use lib.Dec.{eqb, ltb}
use lib.ListN.{length, drop}
use Rattle.std.specs.Prelude.{Result, Ok, Err}
use Rattle.floor.specs.declared.Inside.{Inside}
use Rattle.floor.specs.declared.Refusal.{Refusal}
use Rattle.floor.specs.Look.{look_of}
use Rattle.stored.specs.Stored.{Floor, floor_of, question_of}
use Rattle.steps.specs.declared.Trip.{Trip}
use Rattle.steps.specs.World.{trip_of}
use Rattle.machine.specs.declared.Task.{Task}
use Rattle.machine.specs.declared.Finish.{Finish}
use Rattle.machine.specs.declared.Finish.TheVariants.{Arrived, Emptied, Filled, Stopped, Crowded}
use Rattle.writing.specs.declared.Answer.TheVariants.{Found, NoPlaces, Short}
use Rattle.places.specs.Layout.{places_in}
use Rattle.machine.specs.Search.{Ending, Rest, rest_in, searched_from}
use Rattle.writing.specs.Delivered.{Delivered, delivered_of, written, route_bytes, straight_bytes, finished, delivered}
use Rattle.search.specs.Whole.{Lent, lent_of, Searched, searched_of, if_inside, with_lent, routed, between_of, search_of}

written_fits : (bytes : List ℕ) (counted : ℕ) (out : List ℕ) (steps n : ℕ) → (written bytes counted out).answer ≡ Found steps n → n ≤ length out
unfolding written
written_fits bytes counted out steps n = go (ltb (length out) (length bytes)) refl
  where
    found : Delivered
    found = delivered_of (Found counted (length bytes)) (bytes ++ drop (length bytes) out)

    go : (b : Bool) → ltb (length out) (length bytes) ≡ b → (cond {A = Delivered} b (delivered_of (Short counted) out) found).answer ≡ Found steps n
        → n ≤ length out
    go true l e = let z : ◌≡◌ {A = ℕ} 0 1 = cc in absurd (omega arith)
    go false l e = let k : length bytes ≡ n = cc in omega (arith, ltb-false (length out) (length bytes) l)

module _ (f : Floor) (trip : Trip) (budget : ℕ) (lent : Lent) (out : List ℕ) (steps n : ℕ) where
  abbrev task : Task
  task = record { trip = trip; places = places_in lent.work }

  abbrev left : Rest
  left = rest_in (searched_from f task budget lent.work lent.table)

  abbrev end : Ending
  end = left.end

  finished_fits : (finish : Finish) → (finished end.state.work trip finish end.state.counts.pops out).answer ≡ Found steps n → n ≤ length out
  finished_fits (Arrived i) e = written_fits (route_bytes end.state.work trip i) end.state.counts.pops out steps n e
  finished_fits Emptied e = let z : ◌≡◌ {A = ℕ} 0 1 = cc in absurd (omega arith)
  finished_fits Filled e = let z : ◌≡◌ {A = ℕ} 0 1 = cc in absurd (omega arith)
  finished_fits Stopped e = let z : ◌≡◌ {A = ℕ} 0 1 = cc in absurd (omega arith)
  finished_fits Crowded e = let z : ◌≡◌ {A = ℕ} 0 1 = cc in absurd (omega arith)

  between_fits : (between_of f trip budget lent out).answer ≡ Found steps n → n ≤ length out
  unfolding between_of routed delivered
  between_fits = go (eqb (places_in lent.work) 0) (eqb trip.from trip.to)
    where
      straight : Delivered
      straight = written (straight_bytes trip) 0 out

      around : Delivered
      around = finished end.state.work trip end.finish end.state.counts.pops out

      go : (a b : Bool)
          → (cond {A = Searched} a (searched_of NoPlaces lent out)
          (cond {A = Searched} b (with_lent lent straight) (with_lent (lent_of end.state.work left.table) around))).answer
          ≡ Found steps n → n ≤ length out
      go true b e = let z : ◌≡◌ {A = ℕ} 0 1 = cc in absurd (omega arith)
      go false true e = written_fits (straight_bytes trip) 0 out steps n e
      go false false e = finished_fits end.finish e

pub found_fits : (s : ℕ) (vs ps question : List ℕ) (budget : ℕ) (lent : Lent) (out : List ℕ) (steps n : ℕ)
    → (search_of s vs ps question budget lent out).answer ≡ Found steps n → n ≤ length out
unfolding search_of
found_fits s vs ps question budget lent out steps n = go (look_of s vs ps question)
  where
    go : (look : Result Inside Refusal)
        → (if_inside look lent out (λ p goal. between_of (floor_of s vs ps) (trip_of (question_of question) p goal) budget lent out)).answer ≡ Found steps n
        → n ≤ length out
    go (Ok i) e = between_fits (floor_of s vs ps) (trip_of (question_of question) i.start i.goal) budget lent out steps n e
    go (Err r) e = let z : ◌≡◌ {A = ℕ} 0 1 = cc in absurd (omega arith)
