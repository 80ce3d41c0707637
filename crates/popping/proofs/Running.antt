-- A run, step by step: what was to be run is what is left to be run. Assumes nothing.
use Prim.Native.Nat.{ℕ, zero, suc, ◌+◌, ◌≤◌, ◌<◌, ◌^◌}
use native.Mathlib.Omega.{arith}
use mathlib.Core.Path.{◌≡◌, refl, sym, ap, ◌∙◌, subst}
use mathlib.Core.Bool.{Bool, true, false}
use mathlib.Core.List.{List}
use borrow.Author.Tests.{eq-eqb, ne_eqb}
use lib.Dec.{eqb}
use lib.Ieee.{Float}
use lib.ListN.{length}
use Rattle.std.specs.Prelude.{Option, Some, None, is_some}
use Rattle.std.specs.Option.{option_eq}
use Rattle.float.proofs.Tests.{untrue}
use Rattle.stored.specs.Stored.{Floor, floor_in}
use Rattle.edges.specs.Ground.{Ground}
use Rattle.steps.specs.declared.Node.{Node}
use Rattle.steps.specs.Steps.{steps_from, seed_node}
use Rattle.going.proofs.Stands.{seed_stands}
use Rattle.queue.specs.Queue.{none, place_named, least_of, NoNan, Tree}
use Rattle.queue.proofs.Queued.{named_none, named_some}
use Rattle.machine.specs.declared.Task.{Task}
use Rattle.machine.specs.declared.Origin.{Origin}
use Rattle.machine.specs.declared.Stall.{Stall}
use Rattle.machine.specs.declared.Finish.{Finish}
use Rattle.machine.specs.declared.Finish.TheVariants.{Emptied, Filled, Stopped}
use Rattle.places.specs.Layout.{Work, least_in, f_at}
use Rattle.seen.specs.Kept.{Records}
use Rattle.machine.specs.Search.{State, state_of, Making, ending, Searching, searching, Turn, turning, closing, Rest, rest_of, rest_in}
use Rattle.machine.specs.Search.{made_all, planted, begun}
use Rattle.machine.specs.Search.{seed_origin, outset}
use Rattle.machine.specs.Search.{popped, calm, noticed, table_after, watched, visited, step, onwards, run, searched_from}
use Rattle.machine.specs.Sound.{Begins, Fit, Sound, OnRecord, Numbered, SoundFrom, Watches, SoundSearch, Leaves}
use Rattle.machine.proofs.Turning.{table_records, sound_step, numbered_step, watches_step}
use Rattle.machine.proofs.Begun.{sound_begun, on_first, sound_seeded, numbered_seeded}
use Rattle.making.proofs.Looping.{AsLong, long_same, long_then}
use Rattle.machine.proofs.Counting.{pops_made_all, pops_step}
use Rattle.popping.proofs.Lengths.{long_step}
use Rattle.popping.proofs.Stepping.{least_is}

none_there : (o : Option ℕ) → is_some o ≡ false → o ≡ None
none_there None e = refl
none_there (Some w) e = cc

-- the same, asked by `==`
pub none_by : (E : ℕ → ℕ → Bool) (o : Option ℕ) → option_eq E o None ≡ true → is_some o ≡ false
none_by E None e = refl
none_by E (Some w) e = sym e

pub some_by : (E : ℕ → ℕ → Bool) (o : Option ℕ) → option_eq E o None ≡ false → is_some o ≡ true
some_by E None e = sym e
some_by E (Some w) e = refl

some_there : (o : Option ℕ) → is_some o ≡ true → (w : ℕ) × (o ≡ Some w)
some_there None e = cc
some_there (Some w) e = (w, refl)

pub record Runs (plan vs ps : List ℕ) (t : Task) (budget : ℕ) (was at : Searching) (left : ℕ) : Type 0 where
  pub ground : Ground plan vs ps
  pub sound : SoundSearch plan vs ps t at
  pub long : AsLong at.state was.state
  pub table_long : length at.table ≡ length was.table
  pub count : at.state.counts.pops + left < 2 ^ 64
  pub rest : run (floor_in plan vs ps) t budget was ≡ run (floor_in plan vs ps) t left at

pub runs_begin : {plan vs ps : List ℕ} {t : Task} {budget left : ℕ} {s : State} {stall : Stall} {table : List ℕ} → Ground plan vs ps
    → SoundFrom plan vs ps t s → s.counts.pops + budget < 2 ^ 64 → stall ≡ calm → budget ≡ left
    → Runs plan vs ps t budget (searching s calm table) (searching s stall table) left
runs_begin {plan} {vs} {ps} {t} {budget} {left} {s} {stall} {table} g h few e all =
    subst (λ (y : Stall). Runs plan vs ps t budget (searching s calm table) (searching s y table) left) (sym e) (record {
      ground = g;
      sound = record { from = h; watches = record { patient = λ d. omega arith; records = λ d. untrue d } };
      long = long_same s;
      table_long = refl;
      count = omega (arith, few, all);
      rest = ap (λ (k : ℕ). run (floor_in plan vs ps) t k (searching s calm table)) all;
    })

module _ {plan vs ps : List ℕ} {t : Task} {budget : ℕ} {was at : Searching} {left : ℕ} (r : Runs plan vs ps t budget was at left) where
  abbrev f : Floor
  f = floor_in plan vs ps

  -- the place that the tree gives is the least
  module _ {found : Option ℕ}
      (told : (f : ℕ → Float) (n : ℕ) (q : ℕ → Bool) → 0 < n → n ≤ none → NoNan f n q → Tree f n q at.state.work.queue
      → found ≡ place_named (least_of f n q)) where
    pub runs_least : found ≡ place_named (least_in t.places at.state.work)
    runs_least = least_is r.sound.from told

    -- nothing is queued, whether the budget is spent or not
    pub runs_empty : found ≡ None → rest_of (ending at.state Emptied) at.table ≡ rest_in (run f t budget was)
    runs_empty e = sym (ap rest_in (r.rest ∙ empty left))
      where
        none_queued : eqb (least_in t.places at.state.work) none ≡ true
        none_queued = eq-eqb _ _ (named_none _ (sym runs_least ∙ e))

        empty : (k : ℕ) → run f t k at ≡ closing at Emptied
        empty zero = unfold run in rw none_queued
        empty (suc k) = unfold run step in rw none_queued

    pub runs_place : {w : ℕ} → found ≡ Some w → (w ≡ least_in t.places at.state.work) × (w ≡ none → ⊥)
    runs_place queue = named_some _ _ (sym runs_least ∙ queue)

    pub runs_none : is_some found ≡ false → rest_of (ending at.state Emptied) at.table ≡ rest_in (run f t budget was)
    runs_none e = runs_empty (none_there found e)

    pub runs_out : left ≤ 0 → is_some found ≡ true → rest_of (ending at.state Stopped) at.table ≡ rest_in (run f t budget was)
    unfolding run
    runs_out over e =
        let e' : left ≡ 0 = omega arith in
        let some = some_there found e in
        let place = runs_place some.1 in
        let end : run f t budget was ≡ closing at Stopped
        = r.rest ∙ ap (λ (k : ℕ). run f t k at) e' ∙ rw (← place.0, ne_eqb _ _ place.1) in
        sym (ap rest_in end)

    -- a step: the pop is noticed, and what came of it
    module _ {fewer : ℕ} (some : left ≡ suc fewer) {w : ℕ} (queue : found ≡ Some w) {stall : Stall}
        (noted : stall ≡ noticed at.stall (f_at at.state.work w)) {table : List ℕ} (laid : table ≡ table_after at.stall stall at.table) where
      pub runs_records : stall.recording ≡ true → Records table
      runs_records = rw laid (table_records at.stall stall at.table r.sound.watches.records)

      module _ {after : State} {outcome : Option Finish} {left-table : List ℕ}
          (came : (y : Stall) → y.recording ≡ stall.recording
          → turning (searching after y left-table) outcome ≡ visited f t (searching (popped f t at.state w) y table) w) where
        abbrev onto : Searching
        onto = searching after stall left-table

        stepped : turning onto outcome ≡ step f t at
        unfolding step watched
        stepped = came stall refl ∙ rw (← (runs_place queue).0, ne_eqb _ _ (runs_place queue).1, laid, noted)

        turned : run f t budget was ≡ onwards f t onto outcome (run f t fewer)
        unfolding run
        turned =
            r.rest ∙ ap (λ (k : ℕ). run f t k at) some ∙ ap (λ (x : Turn). onwards f t x.search x.outcome (run f t fewer)) (sym stepped)

        pub runs_ends : {finish : Finish} → outcome ≡ Some finish → rest_of (ending after finish) left-table ≡ rest_in (run f t budget was)
        runs_ends e = sym (ap rest_in (turned ∙ ap (λ (o : Option Finish). onwards f t onto o (run f t fewer)) e))

        pub runs_next : outcome ≡ None → length left-table ≡ length at.table → Runs plan vs ps t budget was onto fewer
        runs_next e table_long =
            let g = r.ground in
            let seed = r.sound.from.seed in
            let sound = r.sound.from.sound in
            record {
              ground = g;
              sound = record {
                from = record {
                  seed = seed;
                  sound = subst (λ (x : Turn). Sound plan vs ps t seed x.search.state) (sym stepped) (sound_step plan vs ps t seed g at sound).sound;
                  numbered =
                      subst (λ (x : Turn). Numbered x.search.state) (sym stepped)
                      (numbered_step plan vs ps t seed g at sound r.sound.from.numbered);
                };
                watches = subst (λ (x : Turn). Watches x.search) (sym stepped) (watches_step plan vs ps t seed g at sound r.sound.watches);
              };
              long =
                  long_then
                  (subst (λ (x : Turn). AsLong x.search.state at.state) (sym stepped) (long_step f t at r.sound.from.sound.fit.room.queue_room))
                  r.long;
              table_long = table_long ∙ r.table_long;
              count = let p = rw (← stepped) at (pops_step f t at) in omega (arith, p, r.count, some);
              rest = turned ∙ ap (λ (o : Option Finish). onwards f t onto o (run f t fewer)) e;
            }

-- ---- a search begins

abbrev pub first_of : Work → State
first_of w = state_of w (record { taken = 1; records = 1; pops = 0 })

abbrev pub leaves_seed : Node → Origin
leaves_seed seed = record { place = 0; depth = 0; number = 0; node = seed }

module _ {plan vs ps : List ℕ} {t : Task} {was : Work} (h : Begins plan vs ps t was) where
  abbrev first : Node
  first = seed_node t.trip.start t.trip.from

  abbrev floor : Floor
  floor = floor_in plan vs ps

  module _ {seed : Node} (seeded : seed ≡ first) {w : Work} (grown : w ≡ planted floor t seed was) where
    first_is : first_of w ≡ begun floor t first was
    unfolding begun
    first_is = rw (grown, seeded)

    first_sound : Sound plan vs ps t first (first_of w)
    first_sound = subst (Sound plan vs ps t first) (sym first_is) (sound_begun plan vs ps t h.ground h.listed was h.room h.places)

    pub first_fit : Fit t (first_of w)
    first_fit = first_sound.fit

    first_on_record : OnRecord (first_of w) first.root 0
    first_on_record =
        subst (λ (x : State). OnRecord x first.root 0) (sym first_is)
        (on_first plan vs ps t h.ground h.listed was h.room h.places h.self)

    pub first_leaves : Leaves plan vs ps (first_of w) (leaves_seed seed)
    unfolding seed_node
    first_leaves = rw seeded (record {
      stands = seed_stands plan vs ps h.ground t.trip.start t.trip.from h.listed;
      leaving = record { on_record = first_on_record; place_few = omega arith; depth_few = omega arith; points_few = omega arith };
    })

    pub first_apart : eqb seed.polygon t.trip.to ≡ false
    unfolding seed_node
    first_apart = rw seeded h.apart

    pub first_made : {m : Making} → m ≡ made_all floor t (first_of w) (leaves_seed seed) (steps_from floor t.trip.to seed) → m ≡ outset floor t was
    unfolding outset seed_origin
    first_made made = made ∙ rw (first_is, seeded)

  module _ {m : Making} (made : m ≡ outset floor t was) where
    pub made_sound : SoundFrom plan vs ps t m.state
    made_sound = record {
      seed = first;
      sound =
          subst (λ (x : Making). Sound plan vs ps t first x.state) (sym made)
          (sound_seeded plan vs ps t h.ground h.listed was h.room h.places);
      numbered =
          subst (λ (x : Making). Numbered x.state) (sym made)
          (numbered_seeded plan vs ps t h.ground h.listed was h.room h.places h.self);
    }

    pub made_uncounted : m.state.counts.pops ≡ 0
    unfolding outset begun
    made_uncounted =
        ap (λ (x : Making). x.state.counts.pops) made
        ∙ pops_made_all floor t (steps_from floor t.trip.to first) (begun floor t first was) (seed_origin floor t first)

    pub searches_full : (budget : ℕ) (table : List ℕ) → m.full ≡ true
        → rest_of (ending m.state Filled) table ≡ rest_in (searched_from floor t budget was table)
    unfolding searched_from
    searches_full budget table e = rw (← made, e)

    pub searches_on : (budget : ℕ) (table : List ℕ) → m.full ≡ false → {e : Rest} → e ≡ rest_in (run floor t budget (searching m.state calm table))
        → e ≡ rest_in (searched_from floor t budget was table)
    unfolding searched_from
    searches_on budget table full e = e ∙ rw (← made, full)
