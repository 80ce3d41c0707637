-- The read-out of a route that the search found lists as many points as its end record says. Assumes nothing.
use Prim.Native.Nat.{ℕ, ◌*◌}
use native.Mathlib.Omega.{arith}
use mathlib.Core.Path.{◌≡◌, sym, ap, ◌∙◌}
use mathlib.Core.Bool.{Bool, true, false, cond}
use mathlib.Core.List.{List}
use lib.Dec.{ltb}
use lib.Ieee.{Float}
use lib.ListN.{length, take}
use Rattle.point.specs.declared.Point.{Point}
use Rattle.stored.specs.Stored.{floor_of, question_of}
use Rattle.std.specs.Prelude.{Result, Ok, Err}
use Rattle.route.specs.Record.{end_bytes}
use Rattle.readout.specs.declared.Unlisted.{Unlisted}
use Rattle.readout.specs.declared.Unlisted.TheVariants.{Short}
use Rattle.readout.specs.Readout.{route_points, listed, answer_if, readout_of}
use Rattle.readout.specs.Points.{length_of}
use Rattle.judge.proofs.Exact.{verdict_exactly}
use Rattle.readout.proofs.Lengths.{route_carries}
use Rattle.search.specs.Whole.{Lent, search_of}
use Rattle.promises.specs.Promises.{FoundIsListed}
use Rattle.promises.proofs.Routes.{found_is_accepted}

-- what is listed is as many as there are
listed_all : (points : List Point) (out : List Float) (count : ℕ) → listed points out ≡ Ok count → length points ≡ count
unfolding listed
listed_all points out count = go (ltb (length out) (length points * 2))
  where
    go : (b : Bool) → cond {A = Result ℕ Unlisted} b (Err Short) (Ok (length points)) ≡ Ok count → length points ≡ count
    go true e = let z : ◌≡◌ {A = ℕ} 0 1 = cc in absurd (omega arith)
    go false e = cc

pub found_is_listed : (s : ℕ) (vs ps question : List ℕ) (budget : ℕ) (lent : Lent) → FoundIsListed s vs ps question budget lent
unfolding readout_of route_points
found_is_listed s vs ps question budget lent some few bytes out steps n found room count e =
    let file = take n (search_of s vs ps question budget lent out).out in
    let points = route_points (floor_of s vs ps) question file in
    let accepted = found_is_accepted s vs ps question budget lent some few bytes out steps n found in
    let route = (verdict_exactly s vs ps question file bytes (Ok tt)).0 accepted in
    let many : length points ≡ count = listed_all points room count (sym (ap (λ v. answer_if v points room) accepted) ∙ e) in
    route_carries s vs ps question file bytes route.1
    ∙ ap (λ (k : ℕ). end_bytes k (question_of question).goal (length_of (question_of question).start points)) many
