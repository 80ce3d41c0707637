-- From a floor and a question to the search: each way through the code is the definition's, and what the search asks for is there. Assumes nothing.
use Prim.Native.Nat.{ℕ, ◌≤◌, ◌<◌}
use mathlib.Core.Path.{◌≡◌, sym, ap, ◌∙◌, subst}
use mathlib.Core.Bool.{Bool, true, not, cond, ◌&&◌}
use mathlib.Core.List.{List}
use borrow.Author.Tests.{eq-eqb, ne_eqb}
use lib.Dec.{T, eqb}
use lib.Ieee.{Float, is_nan, le, neg}
use lib.ListN.{length}
use Rattle.float.proofs.Tests.{and_true}
use Rattle.float.proofs.Nan.{le_no_nan}
use Rattle.point.specs.declared.Point.{Point}
use Rattle.point.specs.Point.{limit, same_of}
use Rattle.floor.specs.declared.Refusal.{Refusal}
use Rattle.std.specs.Prelude.{Result, Ok, Err}
use Rattle.floor.specs.declared.Inside.{Inside}
use Rattle.plan.specs.Plan.{polygon_count_in}
use Rattle.stored.specs.Stored.{Floor, floor_of, floor_in, question_of}
use Rattle.faults.specs.Tests.{coordinate_right, point_right, question_right}
use Rattle.edges.specs.Ground.{Ground}
use Rattle.floor.specs.Look.{floor_look_of, ask_of, look_of}
use Rattle.steps.specs.declared.Trip.{Trip}
use Rattle.steps.specs.Steps.{seed_node}
use Rattle.steps.specs.World.{trip_of}
use Rattle.places.proofs.Records.{same_itself}
use Rattle.machine.specs.declared.buffers.Buffers.{Buffers}
use Rattle.machine.specs.declared.Task.{Task}
use Rattle.machine.specs.Buffers.{work_in}
use Rattle.writing.specs.declared.Answer.{Answer}
use Rattle.writing.specs.declared.Answer.TheVariants.{NoPlaces}
use Rattle.writing.specs.Answers.{refused}
use Rattle.places.specs.Layout.{Work, work_of, Room, places_in}
use Rattle.machine.specs.Search.{Ending, Rest, rest_of, rest_in, searched_from}
use Rattle.writing.specs.Delivered.{straight_bytes, written, delivered}
use Rattle.search.specs.Whole.{Lent, lent_of, Searched, searched_of, with_lent, routed, between_of, asked_of, search_of}
use Rattle.writing.specs.Writing.{Tells}
use Rattle.machine.proofs.Begun.{sound_searched}
use Rattle.search.proofs.Telling.{finish_tells}

-- ---- one polygon, or a search

module _ (f : Floor) (t : Task) (budget : ℕ) (lent : Lent) (out : List ℕ) where
  pub routes_straight : t.trip.from ≡ t.trip.to → {r : Answer} → r ≡ (written (straight_bytes t.trip) 0 out).answer
      → {out' : List ℕ} → out' ≡ (written (straight_bytes t.trip) 0 out).out → searched_of r lent out' ≡ routed f t budget lent out
  unfolding routed
  routes_straight e a o = rw (eq-eqb _ _ e, a, o)

  pub routes_search : (t.trip.from ≡ t.trip.to → ⊥) → (e : Ending) (table : List ℕ)
      → rest_of e table ≡ rest_in (searched_from f t budget lent.work lent.table) → {r : Answer} → r ≡ (delivered t.trip e out).answer
      → {out' : List ℕ} → out' ≡ (delivered t.trip e out).out → searched_of r (lent_of e.state.work table) out' ≡ routed f t budget lent out
  unfolding routed
  routes_search n e table s {r} a {out'} o =
      let given = ap (λ (x : Answer). searched_of x (lent_of e.state.work table) out') a in
      let filled = ap (λ (x : List ℕ). searched_of (delivered t.trip e out).answer (lent_of e.state.work table) x) o in
      given ∙ filled ∙ ap told s ∙ ap (λ (b : Bool). cond b (with_lent lent (written (straight_bytes t.trip) 0 out)) (told left)) (sym (ne_eqb _ _ n))
    where
      left : Rest
      left = rest_in (searched_from f t budget lent.work lent.table)

      told : Rest → Searched
      told x = with_lent (lent_of x.end.state.work x.table) (delivered t.trip x.end out)

-- where it ended it can be told
pub routes_told : (plan vs ps : List ℕ) (t : Task) (budget : ℕ) (w : Work) (lent : List ℕ) → Ground plan vs ps → Room t.places w → 1 ≤ t.places
    → t.trip.from < polygon_count_in plan → (e : Ending) (table : List ℕ) → rest_of e table ≡ rest_in (searched_from (floor_in plan vs ps) t budget w lent)
    → Tells e.state.work.floats e.state.work.words e.finish
routes_told plan vs ps t budget w lent g room places listed e table s =
    let seed = seed_node t.trip.start t.trip.from in
    let h = sound_searched plan vs ps t g listed w room places budget lent in
    let ended = searched_from (floor_in plan vs ps) t budget w lent in
    let tells = finish_tells plan vs ps t seed ended.search.state h.sound g ended.finish h.arrives in
    subst (λ (r : Rest). Tells r.end.state.work.floats r.end.state.work.words r.end.finish) (sym s) tells

-- ---- the lent buffers

-- what the slices hold once they are given back
pub given_back : {floats : List Float} {words queue : List ℕ} (work : Buffers) → floats ≡ work.floats.now → words ≡ work.words.now → queue ≡ work.queue.now
    → {r : Answer} {table out : List ℕ} {x : Searched} → searched_of r (lent_of (work_in work) table) out ≡ x
    → searched_of r (lent_of (work_of floats words queue) table) out ≡ x
given_back work f w q e = rw (f, w, q) e

-- ---- how many places

module _ (f : Floor) (trip : Trip) (budget : ℕ) (lent : Lent) (out : List ℕ) {n : ℕ} (places : n ≡ places_in lent.work) where
  pub between_none : n ≡ 0 → searched_of NoPlaces lent out ≡ between_of f trip budget lent out
  unfolding between_of
  between_none e = rw (← places, eq-eqb _ _ e)

  pub between_on : (n ≡ 0 → ⊥) → {x : Searched} → x ≡ routed f (record { trip = trip; places = n }) budget lent out
      → x ≡ between_of f trip budget lent out
  unfolding between_of
  between_on e x = x ∙ rw (← places, ne_eqb _ _ e)

-- ---- the question

in_range : (x : Float) → coordinate_right x ≡ true → T (not (is_nan x))
unfolding coordinate_right
in_range x e = (le_no_nan x limit (and_true (le (neg limit) x) (le x limit) e).1).0

-- a start that was accepted has no NaN
pub start_self : (question : List ℕ) → question_right question ≡ true → {start : Point} → start ≡ (question_of question).start
    → same_of start start ≡ true
unfolding question_right point_right
start_self question e {start} s =
    let q = question_of question in
    let points = (and_true (eqb (length question) 16) (point_right q.start && point_right q.goal) e).1 in
    let x = and_true (coordinate_right q.start.x) (coordinate_right q.start.y) (and_true (point_right q.start) (point_right q.goal) points).0 in
    subst (λ (p : Point). same_of p p ≡ true) (sym s) (same_itself q.start (in_range q.start.x x.0) (in_range q.start.y x.1))

module _ (f : Floor) (question : List ℕ) (budget : ℕ) (lent : Lent) (out : List ℕ) {look : Result Inside Refusal} (asked : look ≡ ask_of f question) where
  pub asks_inside : {inside : Inside} → look ≡ Ok inside → {trip : Trip} → trip ≡ trip_of (question_of question) inside.start inside.goal
      → {x : Searched} → x ≡ between_of f trip budget lent out → x ≡ asked_of f question budget lent out
  unfolding asked_of
  asks_inside e t x = x ∙ rw (t, ← asked, e)

  pub asks_refused : {r : Refusal} → look ≡ Err r → searched_of (refused r) lent out ≡ asked_of f question budget lent out
  unfolding asked_of
  asks_refused e = rw (← asked, e)

-- ---- the floor

module _ (slots : ℕ) (vs ps : List ℕ) {look : Result Unit Refusal} (looked : look ≡ floor_look_of slots vs ps) (question : List ℕ) (budget : ℕ)
    (lent : Lent) (out : List ℕ) where
  pub searches_floor : look ≡ Ok tt → {x : Searched} {s : ℕ} → s ≡ slots → x ≡ asked_of (floor_of s vs ps) question budget lent out
      → x ≡ search_of slots vs ps question budget lent out
  unfolding search_of asked_of look_of
  searches_floor e s x = x ∙ rw (s, ← looked, e)

  pub searches_refused : {r : Refusal} → look ≡ Err r → searched_of (refused r) lent out ≡ search_of slots vs ps question budget lent out
  unfolding search_of look_of
  searches_refused e = rw (← looked, e)
