-- How a search ends, behind the look: its task, its end, that the end is sound, and the ground that it went over. Assumes nothing.
use Prim.Native.Nat.{ℕ, ◌≤◌, ◌<◌}
use native.Mathlib.Omega.{arith}
use mathlib.Core.Path.{◌≡◌, sym, subst}
use mathlib.Core.Bool.{false}
use mathlib.Core.List.{List}
use borrow.Author.Tests.{eqb-false}
use lib.Dec.{eqb}
use lib.ListN.{length}
use Rattle.plan.specs.Plan.{slots_in, polygon_count_in}
use Rattle.stored.specs.Stored.{Floor, polygons_of, floor_in}
use Rattle.stored.proofs.Records.{polygons_counted}
use Rattle.edges.specs.Where.{plan_of}
use Rattle.edges.specs.Ground.{Ground}
use Rattle.edges.proofs.Turned.{plan_slots, ground}
use Rattle.std.specs.Prelude.{Ok}
use Rattle.floor.specs.Look.{look_of}
use Rattle.floor.proofs.Exact.{each_exactly}
use Rattle.steps.specs.declared.Trip.{Trip}
use Rattle.steps.specs.Steps.{seed_node}
use Rattle.machine.specs.declared.Task.{Task}
use Rattle.places.specs.Layout.{Work, Room, places_in}
use Rattle.machine.specs.Search.{Close, Rest, rest_in, searched_from}
use Rattle.machine.proofs.Turning.{Finishes}
use Rattle.machine.proofs.Begun.{sound_searched}
use Rattle.search.specs.Whole.{Lent}

abbrev pub task_for : Trip → Work → Task
task_for trip w = record { trip = trip; places = places_in w }

abbrev pub close_for : Floor → Trip → ℕ → Lent → Close
close_for f trip budget lent = searched_from f (task_for trip lent.work) budget lent.work lent.table

-- what is left of it for who lent the buffers
abbrev pub rest_for : Floor → Trip → ℕ → Lent → Rest
rest_for f trip budget lent = rest_in (close_for f trip budget lent)

module _ (w : Work) (places : eqb (places_in w) 0 ≡ false) where
  pub at_least_one : 1 ≤ places_in w
  at_least_one = let no_zero = eqb-false (places_in w) 0 places in omega arith

  -- every place has a row in each buffer
  pub room : Room (places_in w) w
  unfolding places_in
  room = record { floats_room = omega arith; words_room = omega arith; queue_room = omega arith; few = omega arith }

pub sound_end : (lent : Lent) → eqb (places_in lent.work) 0 ≡ false → {plan vs ps : List ℕ} (g : Ground plan vs ps) (trip : Trip)
    → trip.from < polygon_count_in plan → (budget : ℕ)
    → Finishes plan vs ps (task_for trip lent.work) (seed_node trip.start trip.from) g (close_for (floor_in plan vs ps) trip budget lent)
sound_end lent places {plan} {vs} {ps} g trip listed budget =
    let w = lent.work in
    sound_searched plan vs ps (task_for trip w) g listed w (room w places) (at_least_one w places) budget lent.table

-- ---- the ground of a floor on which a look finds start and goal

module _ (s : ℕ) (vs ps question : List ℕ) (some : 0 < s) (few : s ≤ 16) {from to : ℕ}
    (e : look_of s vs ps question ≡ Ok (record { start = from; goal = to })) where
  pub its_ground : Ground (plan_of s vs ps) vs ps
  its_ground =
      let h = ((each_exactly s vs ps question (Ok (record { start = from; goal = to }))).0 e).0 in
      ground s vs ps some few h.0.vertices_whole.some h.0.vertices_whole.few h.0.polygons_whole.few h.1

  pub its_start : from < polygon_count_in (plan_of s vs ps)
  its_start =
      let listed = ((each_exactly s vs ps question (Ok (record { start = from; goal = to }))).0 e).2.listed in
      subst (λ (n : ℕ). from < n) (polygons_counted its_ground.polygons_planned)
      (subst (λ (k : ℕ). from < length (polygons_of k ps)) (sym (plan_slots s vs ps)) listed)

  -- what holds of the floor by its plan holds of the floor
  pub by_slots : (P : ℕ → Type 0) → P (slots_in (plan_of s vs ps)) → P s
  by_slots P h = subst P (plan_slots s vs ps) h
