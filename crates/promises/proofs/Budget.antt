-- With a larger budget a search that its budget did not stop ends as it did: the same steps, the same bytes. Assumes nothing.
use Prim.Native.Nat.{ℕ, zero, suc, ◌+◌}
use native.Mathlib.Omega.{arith}
use mathlib.Core.Path.{◌≡◌, refl, ap}
use mathlib.Core.Bool.{Bool, true, false, cond}
use mathlib.Core.List.{List}
use lib.Dec.{eqb}
use Rattle.std.specs.Prelude.{Option, Some, None, Result, Ok, Err}
use Rattle.floor.specs.declared.Refusal.{Refusal}
use Rattle.floor.specs.declared.Inside.{Inside}
use Rattle.floor.specs.Look.{look_of}
use Rattle.stored.specs.Stored.{Floor, floor_of, question_of}
use Rattle.queue.specs.Queue.{none}
use Rattle.machine.specs.declared.Task.{Task}
use Rattle.machine.specs.declared.Finish.TheVariants.{Emptied, Filled, Stopped}
use Rattle.machine.specs.declared.Finish.{Finish}
use Rattle.places.specs.Layout.{least_in, places_in}
use Rattle.machine.specs.Search.{Searching, Close, closing, searching, rest_in, calm, step, onwards, run, searched_from, outset, Making}
use Rattle.writing.specs.declared.Answer.TheVariants.{Spent, NoPlaces}
use Rattle.writing.specs.Delivered.{written, straight_bytes, delivered}
use Rattle.search.specs.Whole.{Lent, lent_of, Searched, searched_of, if_inside, with_lent, routed, between_of, search_of}
use Rattle.steps.specs.declared.Trip.{Trip}
use Rattle.steps.specs.World.{trip_of}
use Rattle.promises.specs.Promises.{LargerBudgetSame}
use Rattle.promises.proofs.Ends.{task_for, close_for}

-- ---- a run that the budget did not stop

module _ (f : Floor) (t : Task) where
  -- where the queue is empty every budget ends so
  empty_ends : (budget : ℕ) (x : Searching) → eqb (least_in t.places x.state.work) none ≡ true
      → run f t budget x ≡ closing x Emptied
  unfolding run step
  empty_ends zero x e = rw e
  empty_ends (suc budget) x e = rw e

  at_once : (more : ℕ) (x : Searching) (b : Bool) → eqb (least_in t.places x.state.work) none ≡ b
      → ((cond {A = Close} b (closing x Emptied) (closing x Stopped)).finish ≡ Stopped → ⊥)
      → run f t more x ≡ cond {A = Close} b (closing x Emptied) (closing x Stopped)
  at_once more x true e h = empty_ends more x e
  at_once more x false e h = absurd (h refl)

  pub run_longer : (budget more : ℕ) (x : Searching) → ((run f t budget x).finish ≡ Stopped → ⊥) → run f t (budget + more) x ≡ run f t budget x
  unfolding run
  run_longer zero more x h =
      let e : 0 + more ≡ more = omega arith in
      rw e (at_once more x (eqb (least_in t.places x.state.work) none) refl h)
  run_longer (suc budget) more x h =
      let e : suc budget + more ≡ suc (budget + more) = omega arith in
      rw e (go (step f t x).outcome (step f t x).search h (run_longer budget more))
    where
      go : (o : Option Finish) (u : Searching) → ((onwards f t u o (run f t budget)).finish ≡ Stopped → ⊥)
          → ((v : Searching) → ((run f t budget v).finish ≡ Stopped → ⊥) → run f t (budget + more) v ≡ run f t budget v)
          → onwards f t u o (run f t (budget + more)) ≡ onwards f t u o (run f t budget)
      go None u h next = next u h
      go (Some finish) u h next = refl

  -- the same of a whole search
  pub search_longer : (budget more : ℕ) (lent : Lent) → ((searched_from f t budget lent.work lent.table).finish ≡ Stopped → ⊥)
      → searched_from f t (budget + more) lent.work lent.table ≡ searched_from f t budget lent.work lent.table
  unfolding searched_from
  search_longer budget more lent h = go m.full h
    where
      m : Making
      m = outset f t lent.work

      x : Searching
      x = searching m.state calm lent.table

      go : (b : Bool) → ((cond {A = Close} b (closing x Filled) (run f t budget x)).finish ≡ Stopped → ⊥)
          → cond {A = Close} b (closing x Filled) (run f t (budget + more) x) ≡ cond {A = Close} b (closing x Filled) (run f t budget x)
      go true h = refl
      go false h = run_longer budget more x h

-- ---- what is told of it

-- the search was stopped just where it answers 12
module _ (f : Floor) (trip : Trip) (lent : Lent) (out : List ℕ) where
  told_stopped : (c : Close) → c.finish ≡ Stopped → (delivered trip (rest_in c).end out).answer ≡ Spent c.search.state.counts.pops
  unfolding delivered
  told_stopped c h = rw h

  pub between_longer : (budget more : ℕ) → ((steps : ℕ) → (between_of f trip budget lent out).answer ≡ Spent steps → ⊥)
      → between_of f trip (budget + more) lent out ≡ between_of f trip budget lent out
  unfolding between_of routed
  between_longer budget more h = go (eqb (places_in lent.work) 0) (eqb trip.from trip.to) h
    where
      e : Close
      e = close_for f trip budget lent

      l : Close
      l = close_for f trip (budget + more) lent

      -- what is told of a search that closed so
      around : Close → Searched
      around c = let left = rest_in c in with_lent (lent_of left.end.state.work left.table) (delivered trip left.end out)

      -- by whether there are no places, and whether both ends are in one polygon
      by : Bool → Bool → Close → Searched
      by a b c =
          cond {A = Searched} a (searched_of NoPlaces lent out)
          (cond {A = Searched} b (with_lent lent (written (straight_bytes trip) 0 out)) (around c))

      go : (a b : Bool) → ((steps : ℕ) → (by a b e).answer ≡ Spent steps → ⊥) → by a b l ≡ by a b e
      go true b h = refl
      go false true h = refl
      go false false h =
          ap around
          (search_longer f (task_for trip lent.work) budget more lent (λ stopped. h e.search.state.counts.pops (told_stopped e stopped)))

pub larger_budget_same : (s : ℕ) (vs ps question : List ℕ) (budget : ℕ) (lent : Lent) → LargerBudgetSame s vs ps question budget lent
unfolding search_of
larger_budget_same s vs ps question budget lent more out = go (look_of s vs ps question)
  where
    with_budget : ℕ → Result Inside Refusal → Searched
    with_budget n look = if_inside look lent out (λ from to. between_of (floor_of s vs ps) (trip_of (question_of question) from to) n lent out)

    go : (look : Result Inside Refusal) → ((steps : ℕ) → (with_budget budget look).answer ≡ Spent steps → ⊥)
        → with_budget (budget + more) look ≡ with_budget budget look
    go (Ok i) h = between_longer (floor_of s vs ps) (trip_of (question_of question) i.start i.goal) lent out budget more h
    go (Err r) h = refl
