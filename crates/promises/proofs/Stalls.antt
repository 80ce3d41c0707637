-- The promises on a search that stalls. Rests on machine/proofs/{Never, Exact, Calm, Patience}. Assumes nothing.
use Prim.Native.Nat.{ℕ, ◌≤◌}
use native.Mathlib.Omega.{arith}
use mathlib.Core.Path.{◌≡◌, refl, sym, ap, ◌∙◌}
use mathlib.Core.Bool.{Bool, true, false, cond}
use mathlib.Core.List.{List, ◌++◌}
use lib.Dec.{eqb, ltb}
use lib.ListN.{length, drop}
use Rattle.std.specs.Prelude.{Result, Ok, Err}
use Rattle.floor.specs.declared.Refusal.{Refusal}
use Rattle.floor.specs.declared.Inside.{Inside}
use Rattle.floor.specs.Look.{look_of}
use Rattle.stored.specs.Stored.{Floor, floor_of}
use Rattle.edges.specs.Where.{plan_of}
use Rattle.steps.specs.declared.Trip.{Trip}
use Rattle.places.specs.Layout.{Work, places_in}
use Rattle.machine.specs.declared.Task.{Task}
use Rattle.machine.specs.declared.Finish.{Finish}
use Rattle.machine.specs.declared.Finish.TheVariants.{Arrived, Emptied, Filled, Stopped, Crowded}
use Rattle.machine.specs.Search.{Searching, Close, closing, Rest, rest_of, rest_in, outset, run, searched_from}
use Rattle.machine.specs.Before.{searched_before}
use Rattle.machine.proofs.Calm.{calm_searched}
use Rattle.machine.proofs.Patience.{few_pops_calm}
use Rattle.machine.proofs.Exact.{crowded_within, within_crowded}
use Rattle.machine.proofs.Never.{never_crowded}
use Rattle.writing.specs.declared.Answer.TheVariants.{Found, NoPlaces, Short, TableFull}
use Rattle.writing.specs.Answers.{answer_steps}
use Rattle.writing.specs.Delivered.{Delivered, delivered_of, written, route_bytes, straight_bytes, finished, delivered}
use Rattle.search.specs.Whole.{Lent, lent_of, Searched, searched_of, with_lent, if_inside, routed, between_of, search_of}
use Rattle.promises.specs.Stalls.{floor, task_between, set_out, Never14, TableFullCase, TableFullExactly, search_before, NeverStallsIsBefore}
use Rattle.promises.specs.Stalls.{FewStepsAreBefore}
use Rattle.promises.proofs.Ends.{at_least_one, room, its_ground, its_start, by_slots}

-- ---- what is told of an end

-- the counted steps are those of the search, however it ended
written_steps : (bytes : List ℕ) (steps : ℕ) (out : List ℕ) → answer_steps (written bytes steps out).answer ≡ steps
unfolding written answer_steps
written_steps bytes steps out = go (ltb (length out) (length bytes))
  where
    go : (b : Bool) → answer_steps (cond {A = Delivered} b (delivered_of (Short steps) out)
        (delivered_of (Found steps (length bytes)) (bytes ++ drop (length bytes) out))).answer ≡ steps
    go true = refl
    go false = refl

told_steps : (w : Work) (trip : Trip) (finish : Finish) (steps : ℕ) (out : List ℕ) → answer_steps (finished w trip finish steps out).answer ≡ steps
told_steps w trip (Arrived i) steps out = written_steps (route_bytes w trip i) steps out
told_steps w trip Emptied steps out = unfold answer_steps in refl
told_steps w trip Filled steps out = unfold answer_steps in refl
told_steps w trip Stopped steps out = unfold answer_steps in refl
told_steps w trip Crowded steps out = unfold answer_steps in refl

-- 14 is told of a full table alone
written_not_14 : (bytes : List ℕ) (steps : ℕ) (out : List ℕ) (n : ℕ) → (written bytes steps out).answer ≡ TableFull n → ⊥
unfolding written
written_not_14 bytes steps out n = go (ltb (length out) (length bytes))
  where
    go : (b : Bool) → (cond {A = Delivered} b (delivered_of (Short steps) out)
        (delivered_of (Found steps (length bytes)) (bytes ++ drop (length bytes) out))).answer ≡ TableFull n → ⊥
    go true e = let z : ◌≡◌ {A = ℕ} 0 1 = cc in omega arith
    go false e = let z : ◌≡◌ {A = ℕ} 0 1 = cc in omega arith

told_14 : (w : Work) (trip : Trip) (finish : Finish) (steps : ℕ) (out : List ℕ) (n : ℕ) → (finished w trip finish steps out).answer ≡ TableFull n
    → (finish ≡ Crowded) × (steps ≡ n)
told_14 w trip (Arrived i) steps out n e = absurd (written_not_14 (route_bytes w trip i) steps out n e)
told_14 w trip Emptied steps out n e = let z : ◌≡◌ {A = ℕ} 0 1 = cc in absurd (omega arith)
told_14 w trip Filled steps out n e = let z : ◌≡◌ {A = ℕ} 0 1 = cc in absurd (omega arith)
told_14 w trip Stopped steps out n e = let z : ◌≡◌ {A = ℕ} 0 1 = cc in absurd (omega arith)
told_14 w trip Crowded steps out n e = (refl, cc)

module _ (s : ℕ) (vs ps question : List ℕ) (budget : ℕ) (lent : Lent) where
  abbrev f : Floor
  f = floor s vs ps question budget lent

  module _ (from to : ℕ) where
    abbrev t : Task
    t = task_between s vs ps question budget lent from to

    abbrev x : Searching
    x = set_out s vs ps question budget lent from to

    abbrev c : Close
    c = searched_from f t budget lent.work lent.table

    abbrev told : Rest → List ℕ → Searched
    told r out = with_lent (lent_of r.end.state.work r.table) (delivered t.trip r.end out)

    -- by whether there are no places, and whether both ends are in one polygon
    abbrev by : Bool → Bool → Searched → List ℕ → Searched
    by a b around out =
        cond {A = Searched} a (searched_of NoPlaces lent out)
        (cond {A = Searched} b (with_lent lent (written (straight_bytes t.trip) 0 out)) around)

    inside_is : (out : List ℕ) → between_of f t.trip budget lent out ≡ by (eqb (places_in lent.work) 0) (eqb from to) (told (rest_in c) out) out
    unfolding between_of routed
    inside_is out = refl

    -- ---- 14

    -- the seed's steps found their places, and the run came to a full table
    crowded_is : c.finish ≡ Crowded
        → ((outset f t lent.work).full ≡ false) × ((run f t budget x).finish ≡ Crowded)
        × (c.search.state.counts.pops ≡ (run f t budget x).search.state.counts.pops)
    unfolding searched_from
    crowded_is = go (outset f t lent.work).full refl
      where
        go : (b : Bool) → (outset f t lent.work).full ≡ b → (cond b (closing x Filled) (run f t budget x)).finish ≡ Crowded
            → ((outset f t lent.work).full ≡ false) × ((run f t budget x).finish ≡ Crowded)
            × ((cond b (closing x Filled) (run f t budget x)).search.state.counts.pops ≡ (run f t budget x).search.state.counts.pops)
        go true e h = let z : ◌≡◌ {A = ℕ} 0 1 = cc in absurd (omega arith)
        go false e h = (e, h, refl)

    run_is : (outset f t lent.work).full ≡ false → c ≡ run f t budget x
    unfolding searched_from
    run_is e = rw e

    full_is : (out : List ℕ) (steps : ℕ) → c.finish ≡ Crowded → c.search.state.counts.pops ≡ steps → (told (rest_in c) out).answer ≡ TableFull steps
    unfolding delivered
    full_is out steps finish counted = rw (finish, counted)

    case_of : (out : List ℕ) (steps : ℕ) → look_of s vs ps question ≡ Ok (record { start = from; goal = to }) → (a : Bool) → eqb (places_in lent.work) 0 ≡ a
        → (b : Bool) → eqb from to ≡ b → (by a b (told (rest_in c) out) out).answer ≡ TableFull steps → TableFullCase s vs ps question budget lent steps
    unfolding delivered
    case_of out steps l true d b h e = let z : ◌≡◌ {A = ℕ} 0 1 = cc in absurd (omega arith)
    case_of out steps l false d true h e = absurd (written_not_14 (straight_bytes t.trip) 0 out steps e)
    case_of out steps l false d false h e =
        let full = told_14 c.search.state.work t.trip c.finish c.search.state.counts.pops out steps e in
        let is = crowded_is full.0 in
        record {
          from = from;
          to = to;
          inside = l;
          places = d;
          apart = h;
          begins = is.0;
          crowds = crowded_within f t budget x is.1;
          counted = sym is.2 ∙ full.1;
        }

  pub table_full_exactly : TableFullExactly s vs ps question budget lent
  unfolding search_of
  table_full_exactly out steps = (forth (look_of s vs ps question) refl, back)
    where
      answer : Result Inside Refusal → Searched
      answer look = if_inside look lent out (λ from to. between_of f (t from to).trip budget lent out)

      forth : (look : Result Inside Refusal) → look_of s vs ps question ≡ look → (answer look).answer ≡ TableFull steps
          → TableFullCase s vs ps question budget lent steps
      forth (Ok i) l e =
          case_of i.start i.goal out steps l (eqb (places_in lent.work) 0) refl (eqb i.start i.goal) refl
          (ap (λ (y : Searched). y.answer) (sym (inside_is i.start i.goal out)) ∙ e)
      forth (Err r) l e = let z : ◌≡◌ {A = ℕ} 0 1 = cc in absurd (omega arith)

      back : TableFullCase s vs ps question budget lent steps → (answer (look_of s vs ps question)).answer ≡ TableFull steps
      back h =
          let p = h.from in
          let q = h.to in
          let is = run_is p q h.begins in
          let finish = ap (λ (y : Close). y.finish) is ∙ within_crowded f (t p q) budget (x p q) h.crowds in
          let counted = ap (λ (y : Close). y.search.state.counts.pops) is ∙ h.counted in
          ap (λ (look : Result Inside Refusal). (answer look).answer) h.inside ∙ ap (λ (y : Searched). y.answer) (inside_is p q out)
          ∙ ap (λ (a : Bool). (by p q a (eqb p q) (told p q (rest_in (c p q)) out) out).answer) h.places
          ∙ ap (λ (b : Bool). (by p q false b (told p q (rest_in (c p q)) out) out).answer) h.apart
          ∙ full_is p q out steps finish counted

  pub never_14 : Never14 s vs ps question budget lent
  never_14 some few enough out steps e =
      let h = (table_full_exactly out steps).0 e in
      let p = h.from in
      let q = h.to in
      let w = lent.work in
      let finish = ap (λ (y : Close). y.finish) (run_is p q h.begins) ∙ within_crowded f (t p q) budget (x p q) h.crowds in
      by_slots s vs ps question some few h.inside (λ (k : ℕ). (searched_from (floor_of k vs ps) (t p q) budget w lent.table).finish ≡ Crowded → ⊥)
      (never_crowded (plan_of s vs ps) vs ps (t p q) (its_ground s vs ps question some few h.inside) (its_start s vs ps question some few h.inside) w
      (room w h.places) (at_least_one w h.places) budget lent.table enough) finish

  -- ---- a search that does not stall

  before_is : (from to : ℕ) (out : List ℕ) → (c from to).search.stall.recording ≡ false
      → told from to (rest_in (c from to)) out ≡ told from to (rest_of (searched_before f (t from to) budget lent.work) lent.table) out
  before_is from to out quiet = ap (λ (r : Rest). told from to r out) (calm_searched f (t from to) budget lent.work lent.table quiet)

  pub never_stalls_is_before : NeverStallsIsBefore s vs ps question budget lent
  unfolding search_of search_before
  never_stalls_is_before quiet out = go (look_of s vs ps question) refl
    where
      around : ℕ → ℕ → Searched
      around from to =
          by from to (eqb (places_in lent.work) 0) (eqb from to)
          (told from to (rest_of (searched_before f (t from to) budget lent.work) lent.table) out) out

      go : (look : Result Inside Refusal) → look_of s vs ps question ≡ look
          → if_inside look lent out (λ from to. between_of f (t from to).trip budget lent out) ≡ if_inside look lent out around
      go (Ok i) l =
          inside_is i.start i.goal out
          ∙ ap (λ (y : Searched). by i.start i.goal (eqb (places_in lent.work) 0) (eqb i.start i.goal) y out)
          (before_is i.start i.goal out (quiet i.start i.goal l))
      go (Err r) l = refl

  -- where a search was, its counted steps are its pops
  pops_few : (from to : ℕ) (out : List ℕ) → answer_steps (told from to (rest_in (c from to)) out).answer ≤ 513
      → (c from to).search.state.counts.pops ≤ 513
  unfolding delivered
  pops_few from to out few =
      let y = (c from to).search.state in
      omega (arith, few, told_steps y.work (t from to).trip (c from to).finish y.counts.pops out)

  pub few_steps_are_before : FewStepsAreBefore s vs ps question budget lent
  unfolding search_of search_before
  few_steps_are_before some few out = go (look_of s vs ps question) refl
    where
      before : ℕ → ℕ → Searched
      before from to = told from to (rest_of (searched_before f (t from to) budget lent.work) lent.table) out

      same : (from to : ℕ) → look_of s vs ps question ≡ Ok (record { start = from; goal = to }) → (a : Bool) → eqb (places_in lent.work) 0 ≡ a → (b : Bool)
          → answer_steps (by from to a b (told from to (rest_in (c from to)) out) out).answer ≤ 513
          → by from to a b (told from to (rest_in (c from to)) out) out ≡ by from to a b (before from to) out
      same from to l true d b h = refl
      same from to l false d true h = refl
      same from to l false d false h =
          let w = lent.work in
          before_is from to out
          (by_slots s vs ps question some few l
          (λ (k : ℕ). let e = searched_from (floor_of k vs ps) (t from to) budget w lent.table in
          e.search.state.counts.pops ≤ 513 → e.search.stall.recording ≡ false)
          (few_pops_calm (plan_of s vs ps) vs ps (t from to) (its_ground s vs ps question some few l) (its_start s vs ps question some few l) w
          (room w d) (at_least_one w d) budget lent.table) (pops_few from to out h))

      go : (look : Result Inside Refusal) → look_of s vs ps question ≡ look
          → answer_steps (if_inside look lent out (λ from to. between_of f (t from to).trip budget lent out)).answer ≤ 513
          → if_inside look lent out (λ from to. between_of f (t from to).trip budget lent out)
          ≡ if_inside look lent out (λ from to. by from to (eqb (places_in lent.work) 0) (eqb from to) (before from to) out)
      go (Ok i) l h =
          inside_is i.start i.goal out
          ∙ same i.start i.goal l (eqb (places_in lent.work) 0) refl (eqb i.start i.goal)
          (rw (ap (λ (y : Searched). answer_steps y.answer) (sym (inside_is i.start i.goal out))) h)
      go (Err r) l h = refl
