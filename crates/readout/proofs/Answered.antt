-- The read-out's answers by their cases: too short, listed, or what the judge says. Assumes nothing.
use Prim.Native.Nat.{ℕ, ◌*◌, ◌≤◌, ◌<◌}
use mathlib.Core.Path.{◌≡◌, refl, sym, ap, ap₂, ◌∙◌, subst}
use mathlib.Core.List.{List}
use borrow.Author.Tests.{lt-ltb, le-ltb}
use lib.Ieee.{Float}
use lib.ListN.{length}
use lib.Seq.{sets}
use Rattle.point.specs.declared.Point.{Point}
use Rattle.std.specs.Prelude.{Result, Ok, Err}
use Rattle.floor.specs.declared.Refusal.{Refusal}
use Rattle.floor.specs.declared.Inside.{Inside}
use Rattle.stored.specs.Stored.{floor_of, floor_in, question_of}
use Rattle.floor.specs.Look.{look_of}
use Rattle.floor.proofs.Asking.{Looked}
use Rattle.route.specs.declared.Fault.{Fault}
use Rattle.route.specs.declared.Fault.TheVariants.{Length, NotSeed, NotStep, NotEnd}
use Rattle.route.specs.World.{World}
use Rattle.route.specs.Judge.{judge_of}
use Rattle.steps.specs.declared.Node.{Node}
use Rattle.steps.specs.declared.Trip.{Trip}
use Rattle.steps.specs.World.{trip_of, world_in, world_of}
use Rattle.judge.specs.declared.Unaccepted.{Unaccepted}
use Rattle.judge.specs.declared.Unaccepted.TheVariants.{Refused, Untrue}
use Rattle.readout.specs.declared.Unlisted.{Unlisted}
use Rattle.readout.specs.declared.Unlisted.TheVariants.{Unaccepted as NotAccepted, Short}
use Rattle.judge.specs.Verdict.{read_as, verdict_of}
use Rattle.readout.specs.Points.{points_of}
use Rattle.readout.specs.Readout.{floats_of, listed, listing, answer_if, out_if, route_points, readout_of, written_of}
use Rattle.judge.proofs.Looking.{judges_inside, judges_refused}

module _ (points : List Point) (out : List Float) (count : ℕ) (e : count ≡ length points) where
  pub short_is : length out < count * 2 → (Err Short ≡ listed points out) × (out ≡ listing points out)
  unfolding listed listing
  short_is h =
      let l : length out < length points * 2 = subst (λ (n : ℕ). length out < n * 2) e h in
      (rw (lt-ltb (length out) (length points * 2) l), rw (lt-ltb (length out) (length points * 2) l))

  pub listed_is : (out' : List Float) → count * 2 ≤ length out → out' ≡ sets out 0 (floats_of points)
      → (Ok count ≡ listed points out) × (out' ≡ listing points out)
  unfolding listed listing
  listed_is out' h d =
      let l : length points * 2 ≤ length out = subst (λ (n : ℕ). n * 2 ≤ length out) e h in
      (rw (le-ltb (length out) (length points * 2) l) (ap Ok e), rw (le-ltb (length out) (length points * 2) l) d)

-- ---- by what the judge says

module _ (x : Result Unit Fault) (points : List Point) (out : List Float) where
  pub read_accepted : (r : Result ℕ Unlisted) (out' : List Float) → x ≡ Ok tt → (r ≡ listed points out) × (out' ≡ listing points out)
      → (r ≡ answer_if (read_as x) points out) × (out' ≡ out_if (read_as x) points out)
  read_accepted r out' e h = (rw e h.0, rw e h.1)

  pub read_length : x ≡ Err Length
      → (Err (NotAccepted (Untrue Length)) ≡ answer_if (read_as x) points out) × (out ≡ out_if (read_as x) points out)
  read_length e = (rw e, rw e)

  pub read_seed : x ≡ Err NotSeed
      → (Err (NotAccepted (Untrue NotSeed)) ≡ answer_if (read_as x) points out) × (out ≡ out_if (read_as x) points out)
  read_seed e = (rw e, rw e)

  pub read_step : (i : ℕ) → x ≡ Err (NotStep i)
      → (Err (NotAccepted (Untrue (NotStep i))) ≡ answer_if (read_as x) points out) × (out ≡ out_if (read_as x) points out)
  read_step i e = (rw e, rw e)

  pub read_end : (i : ℕ) → x ≡ Err (NotEnd i)
      → (Err (NotAccepted (Untrue (NotEnd i))) ≡ answer_if (read_as x) points out) × (out ≡ out_if (read_as x) points out)
  read_end i e = (rw e, rw e)

  -- whatever is wrong with the file
  pub read_untrue : (fault : Fault) → x ≡ Err fault
      → (Err (NotAccepted (Untrue fault)) ≡ answer_if (read_as x) points out) × (out ≡ out_if (read_as x) points out)
  read_untrue Length e = read_length e
  read_untrue NotSeed e = read_seed e
  read_untrue (NotStep i) e = read_step i e
  read_untrue (NotEnd i) e = read_end i e

-- ---- behind the door

module _ (slots : ℕ) (vs ps question route : List ℕ) (out : List Float) {look : Result Inside Refusal} (looked : look ≡ look_of slots vs ps question) where
  pub reads_refused : {r : Refusal} → look ≡ Err r
      → (Err (NotAccepted (Refused r)) ≡ readout_of slots vs ps question route out) × (out ≡ written_of slots vs ps question route out)
  unfolding readout_of written_of
  reads_refused e = let v = judges_refused slots vs ps question route looked e in (rw (← v), rw (← v))

  module _ {plan : List ℕ} {inside : Inside} (e : look ≡ Ok inside) (h : Looked slots plan vs ps question inside.start inside.goal) {trip : Trip}
      (t : trip ≡ trip_of (question_of question) inside.start inside.goal) where
    abbrev w : World Node
    w = world_in (floor_in plan vs ps) trip

    same_verdict : read_as (judge_of w route) ≡ verdict_of slots vs ps question route
    same_verdict = judges_inside slots vs ps question route looked e h.slots_are t refl

    same_world : w ≡ world_of (floor_in plan vs ps) (question_of question)
    unfolding world_of
    same_world =
        ap (world_in (floor_in plan vs ps)) t
        ∙ ap₂ (λ (x y : ℕ). world_in (floor_in plan vs ps) (trip_of (question_of question) x y)) (sym h.asking.from_is) (sym h.asking.to_is)

    same_points : points_of w trip.goal route ≡ route_points (floor_of slots vs ps) question route
    unfolding route_points
    same_points =
        ap₂ (λ (x : World Node) (y : Point). points_of x y route) same_world (ap (λ (x : Trip). x.goal) t)
        ∙ ap (λ (k : ℕ). points_of (world_of (floor_of k vs ps) (question_of question)) (question_of question).goal route) h.slots_are

    pub reads_inside : {r : Result ℕ Unlisted} {out' : List Float}
        → (r ≡ answer_if (read_as (judge_of w route)) (points_of w trip.goal route) out)
        × (out' ≡ out_if (read_as (judge_of w route)) (points_of w trip.goal route) out)
        → (r ≡ readout_of slots vs ps question route out) × (out' ≡ written_of slots vs ps question route out)
    unfolding readout_of written_of
    reads_inside j = (
      j.0 ∙ ap₂ (λ (v : Result Unit Unaccepted) (x : List Point). answer_if v x out) same_verdict same_points,
      j.1 ∙ ap₂ (λ (v : Result Unit Unaccepted) (x : List Point). out_if v x out) same_verdict same_points,
    )
