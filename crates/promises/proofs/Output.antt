-- A search looks at its output at the end alone: whatever output it is lent, it tells the same number with no route, or writes the same route if
-- there is room. So 13 comes exactly where a route is longer than the room. Assumes nothing.
use Prim.Native.Nat.{ℕ, ◌≤◌, ◌<◌}
use native.Mathlib.Omega.{arith}
use mathlib.Core.Path.{◌≡◌, refl, sym, ap, ◌∙◌}
use mathlib.Core.Bool.{Bool, true, false, cond}
use mathlib.Core.List.{List, ◌++◌}
use borrow.Author.Tests.{ltb-true, ltb-false, lt-ltb, le-ltb}
use lib.Dec.{eqb, ltb}
use lib.ListN.{length, take, drop}
use lib.Seq.{take-append_seam}
use Rattle.std.specs.Prelude.{Result, Ok, Err}
use Rattle.floor.specs.declared.Refusal.{Refusal}
use Rattle.floor.specs.declared.Inside.{Inside}
use Rattle.floor.specs.Look.{look_of}
use Rattle.stored.specs.Stored.{Floor, floor_of, question_of}
use Rattle.route.proofs.Trails.{route_long}
use Rattle.judge.proofs.Exact.{world_is_lawful, verdict_exactly}
use Rattle.steps.specs.declared.Trip.{Trip}
use Rattle.steps.specs.World.{trip_of}
use Rattle.machine.specs.declared.Finish.{Finish}
use Rattle.machine.specs.declared.Finish.TheVariants.{Arrived, Emptied, Filled, Stopped, Crowded}
use Rattle.writing.specs.declared.Answer.{Answer}
use Rattle.writing.specs.declared.Answer.TheVariants.{Found, NotFound, NoPlaces, Full, Spent, Short, TableFull}
use Rattle.writing.specs.declared.Answer.TheVariants.{Refused as Turned}
use Rattle.places.specs.Layout.{places_in}
use Rattle.machine.specs.Search.{Ending, Rest}
use Rattle.writing.specs.Delivered.{Delivered, delivered_of, written, route_bytes, straight_bytes, finished, delivered}
use Rattle.search.specs.Whole.{Lent, lent_of, Searched, searched_of, if_inside, with_lent, routed, between_of, search_of}
use Rattle.promises.specs.Promises.{NoRoute, Route, Longer, TellsTheSame, without, with_route, FoundExactly, ShortExactly, FoundIs2To4097Records}
use Rattle.promises.proofs.Ends.{rest_for}
use Rattle.promises.proofs.Routes.{found_is_accepted}

-- ---- what a search tells of any output

module _ (f : Floor) (trip : Trip) (budget : ℕ) (lent : Lent) where
  abbrev left : Rest
  left = rest_for f trip budget lent

  abbrev end : Ending
  end = left.end

  abbrev after : Lent
  after = lent_of end.state.work left.table

  finished_tells : (finish : Finish) (steps : ℕ) → TellsTheSame (λ out. with_lent after (finished end.state.work trip finish steps out))
  finished_tells (Arrived i) steps = with_route (route_bytes end.state.work trip i) steps after (λ out. refl)
  finished_tells Emptied steps = without (NotFound steps) after tt (λ out. refl)
  finished_tells Filled steps = without (Full steps) after tt (λ out. refl)
  finished_tells Stopped steps = without (Spent steps) after tt (λ out. refl)
  finished_tells Crowded steps = without (TableFull steps) after tt (λ out. refl)

  between_tells : TellsTheSame (between_of f trip budget lent)
  unfolding between_of routed delivered
  between_tells = go (eqb (places_in lent.work) 0) (eqb trip.from trip.to)
    where
      straight : List ℕ → Searched
      straight out = with_lent lent (written (straight_bytes trip) 0 out)

      around : List ℕ → Searched
      around out = with_lent after (finished end.state.work trip end.finish end.state.counts.pops out)

      go : (a b : Bool) → TellsTheSame (λ out. cond {A = Searched} a (searched_of NoPlaces lent out) (cond {A = Searched} b (straight out) (around out)))
      go true b = without NoPlaces lent tt (λ out. refl)
      go false true = with_route (straight_bytes trip) 0 lent (λ out. refl)
      go false false = finished_tells end.finish end.state.counts.pops

pub search_tells : (s : ℕ) (vs ps question : List ℕ) (budget : ℕ) (lent : Lent) → TellsTheSame (search_of s vs ps question budget lent)
unfolding search_of
search_tells s vs ps question budget lent = go (look_of s vs ps question)
  where
    go : (look : Result Inside Refusal)
        → TellsTheSame (λ out. if_inside look lent out (λ from to. between_of (floor_of s vs ps) (trip_of (question_of question) from to) budget lent out))
    go (Ok i) = between_tells (floor_of s vs ps) (trip_of (question_of question) i.start i.goal) budget lent
    go (Err r) = without (Turned r) lent tt (λ out. refl)

-- ---- what is written

written_fits : (bytes : List ℕ) (steps : ℕ) (out : List ℕ) → length bytes ≤ length out
    → written bytes steps out ≡ delivered_of (Found steps (length bytes)) (bytes ++ drop (length bytes) out)
unfolding written
written_fits bytes steps out l = rw (le-ltb (length out) (length bytes) l)

written_lacks : (bytes : List ℕ) (steps : ℕ) (out : List ℕ) → length out < length bytes → written bytes steps out ≡ delivered_of (Short steps) out
unfolding written
written_lacks bytes steps out l = rw (lt-ltb (length out) (length bytes) l)

-- the steps of an answer 0 or 13, and the bytes of an answer 0
found_parts : (a b c d : ℕ) → ◌≡◌ {A = Answer} (Found a b) (Found c d) → (a ≡ c) × (b ≡ d)
found_parts a b c d e = (cc, cc)

short_parts : (a c : ℕ) → ◌≡◌ {A = Answer} (Short a) (Short c) → a ≡ c
short_parts a c e = cc

found_not_short : (a b c : ℕ) → ◌≡◌ {A = Answer} (Found a b) (Short c) → ⊥
found_not_short a b c e = let z : ◌≡◌ {A = ℕ} 0 1 = cc in omega arith

module _ (search : List ℕ → Searched) where
  no_route_found : (answer : Answer) → NoRoute answer → (steps n : ℕ) → answer ≡ Found steps n → ⊥
  no_route_found (Found steps bytes) h m n e = h
  no_route_found (NotFound steps) h m n e = let z : ◌≡◌ {A = ℕ} 0 1 = cc in omega arith
  no_route_found (Turned refusal) h m n e = let z : ◌≡◌ {A = ℕ} 0 1 = cc in omega arith
  no_route_found NoPlaces h m n e = let z : ◌≡◌ {A = ℕ} 0 1 = cc in omega arith
  no_route_found (Full steps) h m n e = let z : ◌≡◌ {A = ℕ} 0 1 = cc in omega arith
  no_route_found (Spent steps) h m n e = let z : ◌≡◌ {A = ℕ} 0 1 = cc in omega arith
  no_route_found (Short steps) h m n e = h
  no_route_found (TableFull steps) h m n e = let z : ◌≡◌ {A = ℕ} 0 1 = cc in omega arith

  no_route_short : (answer : Answer) → NoRoute answer → (steps : ℕ) → answer ≡ Short steps → ⊥
  no_route_short (Found steps bytes) h m e = h
  no_route_short (NotFound steps) h m e = let z : ◌≡◌ {A = ℕ} 0 1 = cc in omega arith
  no_route_short (Turned refusal) h m e = let z : ◌≡◌ {A = ℕ} 0 1 = cc in omega arith
  no_route_short NoPlaces h m e = let z : ◌≡◌ {A = ℕ} 0 1 = cc in omega arith
  no_route_short (Full steps) h m e = let z : ◌≡◌ {A = ℕ} 0 1 = cc in omega arith
  no_route_short (Spent steps) h m e = let z : ◌≡◌ {A = ℕ} 0 1 = cc in omega arith
  no_route_short (Short steps) h m e = h
  no_route_short (TableFull steps) h m e = let z : ◌≡◌ {A = ℕ} 0 1 = cc in omega arith

  module _ (out : List ℕ) where
    answer_is : (a : Searched) → search out ≡ a → (search out).answer ≡ a.answer
    answer_is a e = ap (λ (x : Searched). x.answer) e

    -- an answer 0 has a route that fits
    pub found_tells : TellsTheSame search → (steps n : ℕ) → (search out).answer ≡ Found steps n → Route steps n search × (n ≤ length out)
    found_tells (without answer lent none h) steps n e =
        absurd (no_route_found answer none steps n (sym (answer_is (searched_of answer lent out) (h out)) ∙ e))
    found_tells (with_route bytes counted lent h) steps n e = go (ltb (length out) (length bytes)) refl
      where
        told_is : (written bytes counted out).answer ≡ Found steps n
        told_is = sym (answer_is (with_lent lent (written bytes counted out)) (h out)) ∙ e

        go : (b : Bool) → ltb (length out) (length bytes) ≡ b → Route steps n search × (n ≤ length out)
        go true l =
            let lacks = ap (λ (x : Delivered). x.answer) (written_lacks bytes counted out (ltb-true (length out) (length bytes) l)) in
            absurd (found_not_short steps n counted (sym told_is ∙ lacks))
        go false l =
            let room = ltb-false (length out) (length bytes) l in
            let fits = ap (λ (x : Delivered). x.answer) (written_fits bytes counted out room) in
            let same = found_parts counted (length bytes) steps n (sym fits ∙ told_is) in (
              record { bytes = bytes; long = same.1; lent = lent; writes = λ o. h o ∙ ap (λ (k : ℕ). with_lent lent (written bytes k o)) same.0 },
              omega (arith, room, same.1),
            )

    -- an answer 13 has a route that does not
    pub short_tells : TellsTheSame search → (steps : ℕ) → (search out).answer ≡ Short steps → Longer steps (length out) search
    short_tells (without answer lent none h) steps e = absurd (no_route_short answer none steps (sym (answer_is (searched_of answer lent out) (h out)) ∙ e))
    short_tells (with_route bytes counted lent h) steps e = go (ltb (length out) (length bytes)) refl
      where
        told_is : (written bytes counted out).answer ≡ Short steps
        told_is = sym (answer_is (with_lent lent (written bytes counted out)) (h out)) ∙ e

        go : (b : Bool) → ltb (length out) (length bytes) ≡ b → Longer steps (length out) search
        go true l =
            let lacks = ap (λ (x : Delivered). x.answer) (written_lacks bytes counted out (ltb-true (length out) (length bytes) l)) in
            let same = short_parts counted steps (sym lacks ∙ told_is) in
            record {
              size = length bytes;
              route = record { bytes = bytes; long = refl; lent = lent; writes = λ o. h o ∙ ap (λ (k : ℕ). with_lent lent (written bytes k o)) same };
              more = omega (arith, ltb-true (length out) (length bytes) l);
            }
        go false l =
            let fits = ap (λ (x : Delivered). x.answer) (written_fits bytes counted out (ltb-false (length out) (length bytes) l)) in
            absurd (found_not_short counted (length bytes) steps (sym fits ∙ told_is))

    -- and back
    pub route_fits : (steps n : ℕ) (r : Route steps n search) → n ≤ length out
        → search out ≡ searched_of (Found steps n) r.lent (r.bytes ++ drop n out)
    route_fits steps n r l =
        r.writes out
        ∙ ap (with_lent r.lent)
        (written_fits r.bytes steps out (omega (arith, r.long, l)) ∙ ap (λ (k : ℕ). delivered_of (Found steps k) (r.bytes ++ drop k out)) r.long)

    -- its bytes are the front of what is written
    pub route_front : (steps n : ℕ) (r : Route steps n search) → n ≤ length out → take n (search out).out ≡ r.bytes
    route_front steps n r l =
        ap (λ (x : Searched). take n x.out) (route_fits steps n r l)
        ∙ ap (λ (k : ℕ). take k (r.bytes ++ drop n out)) (sym r.long)
        ∙ take-append_seam r.bytes (drop n out)

    pub route_lacks : (steps n : ℕ) (r : Route steps n search) → length out < n → search out ≡ searched_of (Short steps) r.lent out
    route_lacks steps n r l = r.writes out ∙ ap (with_lent r.lent) (written_lacks r.bytes steps out (omega (arith, r.long, l)))

-- ---- the promises

pub short_exactly : (s : ℕ) (vs ps question : List ℕ) (budget : ℕ) (lent : Lent) → ShortExactly s vs ps question budget lent
short_exactly s vs ps question budget lent out steps =
    let search = search_of s vs ps question budget lent in (
      short_tells search out (search_tells s vs ps question budget lent) steps,
      λ r. ap (λ (x : Searched). x.answer) (route_lacks search out steps r.size r.route r.more),
    )

pub found_exactly : (s : ℕ) (vs ps question : List ℕ) (budget : ℕ) (lent : Lent) → FoundExactly s vs ps question budget lent
found_exactly s vs ps question budget lent out steps n =
    let search = search_of s vs ps question budget lent in (
      found_tells search out (search_tells s vs ps question budget lent) steps n,
      λ r. ap (λ (x : Searched). x.answer) (route_fits search out steps n r.0 r.1),
    )

pub found_is_2_to_4097_records : (s : ℕ) (vs ps question : List ℕ) (budget : ℕ) (lent : Lent) → FoundIs2To4097Records s vs ps question budget lent
found_is_2_to_4097_records s vs ps question budget lent some few bytes out steps n e =
    let search = search_of s vs ps question budget lent in
    let told = found_tells search out (search_tells s vs ps question budget lent) steps n e in
    let r = told.0 in
    let accepted = found_is_accepted s vs ps question budget lent some few bytes out steps n e in
    let route = ((verdict_exactly s vs ps question (take n (search out).out) bytes (Ok tt)).0 accepted).1 in
    let size : length (take n (search out).out) ≡ n = ap length (route_front search out steps n r told.1) ∙ r.long in
    let long = route_long (world_is_lawful s vs ps question bytes) route in
    (omega (arith, size, long), omega (arith, size, long), omega (arith, size, long, route.few))
