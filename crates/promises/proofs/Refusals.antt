-- "Other than 0, nothing in the output changes": neither the search's output nor the read_out's points. "Up to 10 the work buffers stay too", and the table.
-- First of the definitions (specs/Promises), then of the contracts themselves (specs/Permits; `Post` is what a contract permits). Assumes nothing.
use Prim.Native.Nat.{ℕ, ◌*◌}
use mathlib.Core.Path.{◌≡◌, refl, ap, ◌∙◌}
use mathlib.Core.Bool.{Bool, true, false, cond}
use mathlib.Core.List.{List}
use borrow.Author.Tests.{ltb-true, ltb-false}
use lib.Dec.{ltb}
use lib.Ieee.{Float}
use lib.ListN.{length}
use lib.Seq.{sets}
use Rattle.told.specs.Told.{number_of}
use Rattle.point.specs.declared.Point.{Point}
use Rattle.stored.specs.Stored.{floor_of}
use Rattle.std.specs.Prelude.{Result, Ok, Err}
use Rattle.judge.specs.declared.Unaccepted.{Unaccepted}
use Rattle.readout.specs.declared.Unlisted.{Unlisted}
use Rattle.readout.specs.declared.Unlisted.TheVariants.{Short}
use Rattle.judge.specs.Verdict.{verdict_of}
use Rattle.readout.specs.Readout.{floats_of, listed, listing, answer_if, out_if, route_points, readout_of, written_of, readout_told, readout_number}
use Rattle.readout.proofs.read_out.Reads as read_out
use Rattle.cart_c.proofs.cart_read_out.Reads as cart-read-out
use Rattle.writing.specs.Answers.{answer_told, answer_number}
use Rattle.search.specs.Whole.{Lent, Searched, routed, between_of, search_of}
use Rattle.search.proofs.search.Reads as search
use Rattle.search.proofs.search_default.Reads as search-default
use Rattle.promises.specs.Promises.{TellsTheSame, without, with_route, Route}
use Rattle.promises.specs.Promises.{RefusalLeavesOutput, RefusedLeavesBuffers, NoPlacesLeavesBuffers, OnePolygonLeavesBuffers, ReadOutLeavesPoints}
use Rattle.promises.specs.Permits.{UnchangedUnlessZero}
use Rattle.promises.proofs.Output.{search_tells, route_fits, route_lacks}

-- ---- the output

pub refusal_leaves_output : (s : ℕ) (vs ps question : List ℕ) (budget : ℕ) (lent : Lent) → RefusalLeavesOutput s vs ps question budget lent
unfolding answer_told number_of
refusal_leaves_output s vs ps question budget lent out = go (search_tells s vs ps question budget lent)
  where
    asked : List ℕ → Searched
    asked = search_of s vs ps question budget lent

    go : TellsTheSame asked → (answer_number (asked out).answer ≡ 0 → ⊥) → (asked out).out ≡ out
    go (without answer after none h) z = ap (λ (x : Searched). x.out) (h out)
    go (with_route bytes steps after h) z = by (ltb (length out) (length bytes)) refl
      where
        route : Route steps (length bytes) asked
        route = record { bytes = bytes; long = refl; lent = after; writes = h }

        by : (b : Bool) → ltb (length out) (length bytes) ≡ b → (asked out).out ≡ out
        by true l = ap (λ (x : Searched). x.out) (route_lacks asked out steps (length bytes) route (ltb-true (length out) (length bytes) l))
        by false l =
            absurd (z (ap (λ (x : Searched). answer_number x.answer)
            (route_fits asked out steps (length bytes) route (ltb-false (length out) (length bytes) l))))

-- ---- the work buffers and the table

pub refused_leaves_buffers : (s : ℕ) (vs ps question : List ℕ) (budget : ℕ) (lent : Lent) → RefusedLeavesBuffers s vs ps question budget lent
unfolding search_of
refused_leaves_buffers s vs ps question budget lent out r e = rw e

pub no_places_leaves_buffers : (s : ℕ) (vs ps question : List ℕ) (budget : ℕ) (lent : Lent) → NoPlacesLeavesBuffers s vs ps question budget lent
unfolding search_of between_of
no_places_leaves_buffers s vs ps question budget lent out from to e z = rw (e, z)

pub one_polygon_leaves_buffers : (s : ℕ) (vs ps question : List ℕ) (budget : ℕ) (lent : Lent) → OnePolygonLeavesBuffers s vs ps question budget lent
unfolding search_of between_of routed
one_polygon_leaves_buffers s vs ps question budget lent out from to e z same = rw (e, z, same)

-- ---- the points of a read_out

-- a read_out that is not 0
abbrev NotRead : Result ℕ Unlisted → Type 0
NotRead answer = readout_number answer ≡ 0 → ⊥

listing_leaves : (points : List Point) (out : List Float) → NotRead (listed points out) → listing points out ≡ out
unfolding listed listing readout_told number_of
listing_leaves points out = go (ltb (length out) (length points * 2))
  where
    go : (b : Bool) → NotRead (cond {A = Result ℕ Unlisted} b (Err Short) (Ok (length points)))
        → cond {A = List Float} b out (sets out 0 (floats_of points)) ≡ out
    go true h = refl
    go false h = absurd (h refl)

pub read_out_leaves_points : ReadOutLeavesPoints
unfolding readout_of written_of
read_out_leaves_points s vs ps question route out = go (verdict_of s vs ps question route)
  where
    points : List Point
    points = route_points (floor_of s vs ps) question route

    go : (v : Result Unit Unaccepted) → NotRead (answer_if v points out) → out_if v points out ≡ out
    go (Ok tt) h = listing_leaves points out h
    go (Err unaccepted) h = refl

-- ---- the contracts

pub search_leaves : UnchangedUnlessZero search.Post answer_number (λ a. a.1.1.1.1.1.1.1.1.0.now) (λ e. e.1.1.1.1.1.1.1.1.0.now)
search_leaves κs a z e p h =
    ap (λ (s : Searched). s.out) p
    ∙ refusal_leaves_output 8 a.0.now a.1.0.now a.1.1.0.now a.1.1.1.0 _ a.1.1.1.1.1.1.1.1.0.now
    (λ k. h (ap (λ (s : Searched). answer_number s.answer) p ∙ k))

pub search_default_leaves : UnchangedUnlessZero search-default.Post answer_number (λ a. a.1.1.1.1.1.1.1.0.now) (λ e. e.1.1.1.1.1.1.1.0.now)
search_default_leaves κs a z e p h =
    ap (λ (s : Searched). s.out) p
    ∙ refusal_leaves_output 8 a.0.now a.1.0.now a.1.1.0.now 4096 _ a.1.1.1.1.1.1.1.0.now
    (λ k. h (ap (λ (s : Searched). answer_number s.answer) p ∙ k))

pub read_out_leaves : UnchangedUnlessZero read_out.Post readout_number (λ a. a.1.1.1.1.0.now) (λ e. e.1.1.1.1.0.now)
read_out_leaves κs a z e p h =
    p.1
    ∙ read_out_leaves_points 8 a.0.now a.1.0.now a.1.1.0.now a.1.1.1.0.now a.1.1.1.1.0.now
    (λ k. h (ap readout_number p.0 ∙ k))

pub cart_read_out_leaves : UnchangedUnlessZero cart-read-out.Post (λ z. z) (λ a. a.1.1.1.1.0.now) (λ e. e.1.1.1.1.0.now)
cart_read_out_leaves κs a z e p h =
    p.1.0
    ∙ read_out_leaves_points 8 a.0.now a.1.0.now a.1.1.0.now a.1.1.1.0.now a.1.1.1.1.0.now (λ k. h (p.0 ∙ k))
