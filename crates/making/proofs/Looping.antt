-- The loops over a node's edges and over an edge's parts: what was to be made is what is left to be made. Assumes nothing.
use Prim.Native.Nat.{ℕ, ◌+◌, ◌*◌, ◌≤◌, ◌<◌}
use native.Mathlib.Omega.{arith}
use mathlib.Core.Path.{◌≡◌, refl, sym, ap, ap₂, ◌∙◌, subst}
use mathlib.Core.Bool.{Bool, true, false, cond, not, ◌||◌}
use mathlib.Core.List.{List, [], ◌++◌}
use borrow.Author.Tests.{not-true, not-false}
use lib.Dec.{eqb, leb, ltb}
use lib.Ieee.{Float, binary32, add, is_nan}
use lib.ListN.{length}
use Rattle.std.specs.Prelude.{Option, Some, None}
use Rattle.helpers.specs.Helpers.{heuristic_of}
use Rattle.cut.specs.declared.SuccessorType.{SuccessorType}
use Rattle.walk.specs.declared.Walked.{Walked}
use Rattle.walk.specs.declared.round.Round.{Round}
use Rattle.walk.specs.Walk.{parts_of, part_at}
use Rattle.walk.specs.Round.{successors_on}
use Rattle.walk.specs.Turns.{is_over_of, edge_number_of, next_of}
use Rattle.stored.specs.Stored.{Floor, floor_in, record_in}
use Rattle.edges.specs.Ground.{Ground}
use Rattle.route.specs.declared.Step.{Step}
use Rattle.route.specs.Step.{kind_number}
use Rattle.steps.specs.declared.Node.{Node}
use Rattle.steps.specs.Steps.{enter, and_then, step_of, steps_over, steps_from}
use Rattle.going.specs.Going.{walked_on, begin_round, left_in, Yielded, Goes}
use Rattle.going.proofs.Rounds.{on_yields, begin_goes, next_goes, edges_left, fewer_left}
use Rattle.going.proofs.Left.{left_begin, left_over, steps_left_next}
use Rattle.going.proofs.Parts.{from_part as steps_from_part, from_next, from_none}
use Rattle.places.specs.Layout.{record_for, put_queued}
use Rattle.places.proofs.Rows.{put_floats_length, put_words_length, record_length, distance_length}
use Rattle.places.proofs.Queued.{put_queued_length}
use Rattle.machine.specs.declared.Task.{Task}
use Rattle.machine.specs.declared.Counts.{Counts}
use Rattle.machine.specs.declared.Origin.{Origin}
use Rattle.machine.specs.declared.buffers.Buffers.{Buffers}
use Rattle.machine.specs.Buffers.{SameBuffers}
use Rattle.machine.specs.Search.{State, state_of, Making, making, recorded, queued, is_beaten, kept, placed, taken, made, made_if, made_all}
use Rattle.machine.specs.Sound.{Fit, OnRecord, Leaves}
use Rattle.machine.proofs.Numbers.{on_made_if}
use Rattle.machine.proofs.Fitting.{recorded_found, recorded_new, fit_made}
use Rattle.making.proofs.Parts.{unless_full, made_alone, made_both, each_keeps}

-- ---- the lent slices

pub still_same : (a b c : Buffers) → SameBuffers a b → SameBuffers b c → SameBuffers a c
still_same a b c one more = (more.0 ∙ one.0, more.1 ∙ one.1, more.2 ∙ one.2)

-- ---- making nodes leaves each lent buffer as long as it is

-- two states whose buffers are as long as each other's
pub record AsLong (new old : State) : Type 0 where
  pub floats_long : length new.work.floats ≡ length old.work.floats
  pub words_long : length new.work.words ≡ length old.work.words
  pub queue_long : length new.work.queue ≡ length old.work.queue

pub long_same : (s : State) → AsLong s s
long_same s = record { floats_long = refl; words_long = refl; queue_long = refl }

pub long_then : {a b c : State} → AsLong c b → AsLong b a → AsLong c a
long_then h l = record {
  floats_long = h.floats_long ∙ l.floats_long;
  words_long = h.words_long ∙ l.words_long;
  queue_long = h.queue_long ∙ l.queue_long;
}

pub long_queued : (n : ℕ) (s : State) (c : Counts) (i : ℕ) (b : Bool) → 2 * n ≤ length s.work.queue → AsLong (state_of (put_queued n s.work i b) c) s
long_queued n s c i b room = record { floats_long = refl; words_long = refl; queue_long = put_queued_length n s.work i b room }

long_recorded : (s : State) (node : Node) → AsLong (recorded s node) s
unfolding recorded
long_recorded s node = go (ltb r s.counts.records)
  where
    r : ℕ
    r = record_for s.work.floats s.counts.records node.root

    go : (b : Bool) → AsLong (cond b (recorded_found s node) (recorded_new s node)) s
    go true = record { floats_long = distance_length s.work.floats r node.length; words_long = refl; queue_long = refl }
    go false = record { floats_long = record_length s.work.floats r node.root node.length; words_long = refl; queue_long = refl }

long_kept : (n : ℕ) (s : State) (i : ℕ) (node : Node) → 2 * n ≤ length s.work.queue → AsLong (kept n s i node) s
unfolding kept queued
long_kept n s i node room = go (is_beaten s node)
  where
    after : State
    after = recorded s node

    once : AsLong after s
    once = long_recorded s node

    go : (b : Bool) → AsLong (cond b s (state_of (put_queued n after.work i true) after.counts)) s
    go true = long_same s
    go false = long_then (long_queued n after after.counts i true (rw once.queue_long room)) once

long_placed : (s : State) (o : Origin) (kind : ℕ) (node : Node) (f : Float) → AsLong (placed s o kind node f) s
unfolding placed
long_placed s o kind node f =
    let number = record_for s.work.floats s.counts.records node.root in
    record {
      floats_long = put_floats_length s.work.floats s.counts.taken node f;
      words_long = put_words_length s.work.words s.counts.taken kind node o.place (o.depth + 1) number;
      queue_long = refl;
    }

long_taken : (n : ℕ) (s : State) (o : Origin) (kind : ℕ) (node : Node) (f : Float) → 2 * n ≤ length s.work.queue → AsLong (taken n s o kind node f) s
unfolding taken
long_taken n s o kind node f room =
    let once = long_placed s o kind node f in
    long_then (long_kept n (placed s o kind node f) s.counts.taken node (rw once.queue_long room)) once

module _ (f : Floor) (t : Task) where
  long_made : (s : State) (o : Origin) (step : Step) → 2 * t.places ≤ length s.work.queue → AsLong (made f.vertices t s o step).state s
  unfolding made
  long_made s o step room = go (is_nan node.length || is_nan (heuristic_of node.root t.trip.goal node.interval)) (leb t.places s.counts.taken)
    where
      node : Node
      node = enter f.vertices o.node step

      value : Float
      value = add binary32 node.length (heuristic_of node.root t.trip.goal node.interval)

      go : (a b : Bool)
          → AsLong (cond a (making s false) (cond b (making s true) (making (taken t.places s o (kind_number step.kind) node value) false))).state s
      go true b = long_same s
      go false true = long_same s
      go false false = long_taken t.places s o (kind_number step.kind) node value room

  pub long_made_all : (s : State) (o : Origin) (steps : List Step) → 2 * t.places ≤ length s.work.queue → AsLong (made_all f t s o steps).state s
  long_made_all s o steps room =
      each_keeps f t o (λ at. AsLong at s) (λ at step h. long_then (long_made at o step (rw h.queue_long room)) h) steps s (long_same s)

-- ---- what is left of a list

-- where steps are made from, in a later state
pub leaves_on : {plan vs ps : List ℕ} {was at : State} {o : Origin} → Leaves plan vs ps was o → OnRecord at o.node.root o.number
    → Leaves plan vs ps at o
leaves_on h r =
    let few = h.leaving in
    record {
      stands = h.stands;
      leaving = record { on_record = r; place_few = few.place_few; depth_few = few.depth_few; points_few = few.points_few };
    }

-- all of them, made from the first state on, are the rest, made from this one on
pub record Yet (f : Floor) (t : Task) (o : Origin) (was at : State) (all rest : List Step) : Type 0 where
  pub fit : Fit t at
  pub numbered : OnRecord at o.node.root o.number
  pub long : AsLong at was
  pub left : made_all f t was o all ≡ made_all f t at o rest

module _ (f : Floor) (t : Task) (o : Origin) (was : State) (all : List Step) where
  pub yet_all : Fit t was → OnRecord was o.node.root o.number → Yet f t o was was all all
  yet_all fit numbered = record { fit = fit; numbered = numbered; long = long_same was; left = refl }

  module _ (at : State) where
    pub yet_same : {rest other : List Step} → rest ≡ other → Yet f t o was at all rest → Yet f t o was at all other
    yet_same e y = subst (Yet f t o was at all) e y

    pub yet_none : Yet f t o was at all [] → making at false ≡ made_all f t was o all
    unfolding made_all
    yet_none y = sym y.left

    module _ (some rest : List Step) (y : Yet f t o was at all (some ++ rest)) (m : Making) (made : m ≡ made_all f t at o some) where
      turned : made_all f t was o all ≡ unless_full m (made_all f t m.state o rest)
      turned = y.left ∙ made_both f t o at some rest ∙ ap (λ (x : Making). unless_full x (made_all f t x.state o rest)) (sym made)

      pub yet_full : m.full ≡ true → m ≡ made_all f t was o all
      yet_full e = sym (turned ∙ ap (λ (b : Bool). cond b m (made_all f t m.state o rest)) e)

      pub yet_rest : m.full ≡ false → Yet f t o was m.state all rest
      yet_rest e = record {
        fit = subst (λ (x : Making). Fit t x.state) (sym made) (each_keeps f t o (Fit t) (λ s step. fit_made t f s o step) some at y.fit);
        numbered =
            subst (λ (x : Making). OnRecord x.state o.node.root o.number) (sym made)
            (each_keeps f t o (λ s. OnRecord s o.node.root o.number) (λ s step. on_made_if o.node.root o.number f t s o (Some step)) some at
            y.numbered);
        long = long_then (subst (λ (x : Making). AsLong x.state at) (sym made) (long_made_all f t at o some y.fit.room.queue_room)) y.long;
        left = turned ∙ ap (λ (b : Bool). cond b m (made_all f t m.state o rest)) e;
      }

-- ---- the parts of an edge

abbrev pub on_edge : Floor → Origin → ℕ → Walked → List Step
on_edge f o edge walked = steps_over f o.node (successors_on edge (parts_of walked))

pub one_of_three : {walked : Walked} → Yielded walked → (k : ℕ) → k < walked.count → k < 3
one_of_three yielded k l = omega (arith, l, yielded.few)

-- from the k-th on
abbrev pub from_part : Floor → Origin → ℕ → Walked → ℕ → List Step
from_part f o edge walked k = steps_from_part f o.node edge walked k

-- those of an edge are made, up to the k-th
pub record Parts (f : Floor) (t : Task) (o : Origin) (was at : State) (edge : ℕ) (walked : Walked) (k : ℕ) : Type 0 where
  pub yielded : Yielded walked
  pub yet : Yet f t o was at (on_edge f o edge walked) (from_part f o edge walked k)

pub parts_begin : {f : Floor} {t : Task} {o : Origin} {was : State} {edge : ℕ} {walked : Walked} (round : Round) → walked ≡ walked_on f o.node round
    → Fit t was → OnRecord was o.node.root o.number → Parts f t o was was edge walked 0
parts_begin {f} {t} {o} {was} {edge} {walked} round is fit numbered = record {
  yielded = rw is (on_yields f o.node round);
  yet = yet_all f t o was (on_edge f o edge walked) fit numbered;
}

module _ {f : Floor} {t : Task} {o : Origin} {was at : State} {edge : ℕ} {walked : Walked} {k : ℕ} (h : Parts f t o was at edge walked k) where
  abbrev over : Option Step
  over = step_of f o.node (record { edge = edge; part = part_at walked.parts k })

  -- by what the edge and what it yields are
  on_edge_as : {is : ℕ} → edge ≡ is → {w : Walked} → walked ≡ w
      → made_all f t was o (on_edge f o edge walked) ≡ made_all f t was o (on_edge f o is w)
  on_edge_as e y = ap₂ (λ (i : ℕ) (x : Walked). made_all f t was o (on_edge f o i x)) e y

  pub parts_over_lem : walked.count ≤ k → {is : ℕ} → edge ≡ is → {w : Walked} → walked ≡ w
      → making at false ≡ made_all f t was o (on_edge f o is w)
  parts_over_lem l e y =
      let all = on_edge f o edge walked in
      yet_none f t o was all at (yet_same f t o was all at (from_none f o.node edge walked h.yielded k l) h.yet) ∙ on_edge_as e y

  in_front : (p : Option Step) (rest : List Step) → and_then p rest ≡ and_then p [] ++ rest
  in_front (Some step) rest = refl
  in_front None rest = refl

  module _ (l : k < walked.count) {m : Making} (made : m ≡ made_if f t at o over) where
    abbrev one : List Step
    one = and_then over []

    one_first : from_part f o edge walked k ≡ one ++ from_part f o edge walked (k + 1)
    one_first = from_next f o.node edge walked h.yielded k l ∙ in_front over (from_part f o edge walked (k + 1))

    front : Yet f t o was at (on_edge f o edge walked) (one ++ from_part f o edge walked (k + 1))
    front = yet_same f t o was (on_edge f o edge walked) at one_first h.yet

    made_one : m ≡ made_all f t at o one
    made_one = made ∙ made_alone f t o at over

    pub parts_full : m.full ≡ true → {is : ℕ} → edge ≡ is → {w : Walked} → walked ≡ w → m ≡ made_all f t was o (on_edge f o is w)
    parts_full full e y = yet_full f t o was (on_edge f o edge walked) at one (from_part f o edge walked (k + 1)) front m made_one full ∙ on_edge_as e y

    pub parts_next : m.full ≡ false → Parts f t o was m.state edge walked (k + 1)
    parts_next e = record {
      yielded = h.yielded;
      yet = yet_rest f t o was (on_edge f o edge walked) at one (from_part f o edge walked (k + 1)) front m made_one e;
    }

-- the round behind it
pub next_as : (round : Round) {walked w : Walked} {next : Round} → next ≡ next_of round walked.kind → walked ≡ w → next ≡ next_of round w.kind
next_as round e y = e ∙ ap (λ (x : Walked). next_of round x.kind) y

-- ---- the edges of a polygon

-- over the edges that were not walked yet
abbrev pub yet_to : Floor → Origin → Round → List Step
yet_to f o round = steps_over f o.node (left_in f o.node round)

pub record Loops (plan vs ps : List ℕ) (t : Task) (o : Origin) (was at : State) (round : Round) : Type 0 where
  pub ground : Ground plan vs ps
  pub leaves : Leaves plan vs ps was o
  pub goes : Goes (record_in plan ps o.node.polygon) o.node round
  pub yet : let f = floor_in plan vs ps in Yet f t o was at (steps_from f t.trip.to o.node) (yet_to f o round)

pub loops_begin : {plan vs ps : List ℕ} {t : Task} {o : Origin} {was : State} → Ground plan vs ps → Leaves plan vs ps was o → Fit t was
    → eqb o.node.polygon t.trip.to ≡ false
    → {round : Round} → round ≡ begin_round (record_in plan ps o.node.polygon) o.node → Loops plan vs ps t o was was round
unfolding steps_from
loops_begin {plan} {vs} {ps} {t} {o} {was} g h fit e {round} b =
    let f = floor_in plan vs ps in
    let all = steps_from f t.trip.to o.node in
    let first : all ≡ yet_to f o (begin_round (record_in plan ps o.node.polygon) o.node) = rw (e, left_begin plan vs ps o.node h.stands) in
    subst (Loops plan vs ps t o was was) (sym b)
    (record {
      ground = g;
      leaves = h;
      goes = begin_goes plan vs ps o.node h.stands;
      yet = yet_same f t o was all was first (yet_all f t o was all fit h.leaving.on_record);
    })

module _ {plan vs ps : List ℕ} {t : Task} {o : Origin} {was at : State} {round : Round} (l : Loops plan vs ps t o was at round) where
  abbrev f : Floor
  f = floor_in plan vs ps

  abbrev all : List Step
  all = steps_from f t.trip.to o.node

  none_over : is_over_of round ≡ true → yet_to f o round ≡ []
  unfolding steps_over
  none_over over = rw (left_over plan vs ps o.node l.leaves.stands round over)

  pub loops_over : {over : Bool} → over ≡ is_over_of round → not over ≡ false → making at false ≡ made_all f t was o all
  loops_over {over} asked e = yet_none f t o was all at (yet_same f t o was all at (none_over (sym asked ∙ not-false over e)) l.yet)

  module _ {over : Bool} (asked : over ≡ is_over_of round) (e : not over ≡ true) where
    on : is_over_of round ≡ false
    on = sym asked ∙ not-true over e

    -- what the round's edge yields, and what comes behind it
    abbrev walked : Walked
    walked = walked_on f o.node round

    abbrev this : List Step
    this = on_edge f o (edge_number_of round) walked

    abbrev rest : List Step
    rest = yet_to f o (next_of round walked.kind)

    edge_first : Yet f t o was at all (this ++ rest)
    edge_first = yet_same f t o was all at (steps_left_next plan vs ps o.node l.leaves.stands round l.goes on) l.yet

    module _ {m : Making} (made : m ≡ made_all f t at o this) where
      pub loops_full : m.full ≡ true → m ≡ made_all f t was o all
      loops_full e = yet_full f t o was all at this rest edge_first m made e

      pub loops_next : m.full ≡ false → {next : Round} → next ≡ next_of round walked.kind
          → Loops plan vs ps t o was m.state next
      loops_next e {next} n =
          subst (Loops plan vs ps t o was m.state) (sym n)
          (record {
            ground = l.ground;
            leaves = l.leaves;
            goes = next_goes plan vs ps o.node l.leaves.stands round l.goes on walked.kind;
            yet = yet_rest f t o was all at this rest edge_first m made e;
          })

    pub loops_less : (kind : SuccessorType) {next : Round} → next ≡ next_of round kind → edges_left next < edges_left round
    loops_less kind n =
        subst (λ (x : Round). edges_left x < edges_left round) (sym n) (fewer_left plan vs ps o.node l.leaves.stands round l.goes on kind)
