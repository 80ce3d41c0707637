-- What a true route tells: that its length is right, that the file has one reading, and that a trail into the goal polygon with its end is accepted,
-- also where it is the first bytes of a longer buffer. Over any lawful world. Assumes nothing.
use Prim.Native.Nat.{ℕ, ◌+◌, ◌*◌, ◌≤◌}
use native.Mathlib.Omega.{arith}
use mathlib.Core.Path.{◌≡◌, refl, sym, ap, ◌∙◌}
use mathlib.Core.Bool.{true}
use mathlib.Core.List.{List, ◌++◌}
use lib.ListN.{length, take}
use Rattle.std.specs.Prelude.{Ok}
use Rattle.route.specs.Record.{record_at}
use Rattle.route.specs.World.{World, Lawful, Trail, TrueRoute}
use Rattle.route.specs.Judge.{judge_of}
use Rattle.route.specs.Verdict.{RouteLength}
use Rattle.route.proofs.Trails.{same_parts, join_next, trail_long, route_long, trail_is_one}
use Rattle.route.proofs.Verdicts.{accepted_exactly}

module _ {Node : Type 0} {w : World Node} (lawful : Lawful w) where
  -- "32 × (2 to 4,097) bytes"
  pub route_length : {file : List ℕ} → TrueRoute w file → RouteLength file
  route_length r = record { records = r.steps + 2; least = omega arith; most = omega (arith, r.few); whole = route_long lawful r }

  -- A file is a true route in one way: as many steps, to the same node, of the same bytes.
  pub route_is_one : {file : List ℕ} (r q : TrueRoute w file) → (r.steps ≡ q.steps) × (r.last ≡ q.last) × (r.bytes ≡ q.bytes)
  route_is_one r q =
      let n : r.steps ≡ q.steps = omega (arith, route_long lawful r, route_long lawful q) in
      let long : length r.bytes ≡ (q.steps + 1) * 32 = trail_long lawful r.trail ∙ ap (λ (x : ℕ). (x + 1) * 32) n in
      let parts = same_parts ((q.steps + 1) * 32) r.bytes (w.end_bytes r.last) q.bytes (w.end_bytes q.last) long
      (trail_long lawful q.trail) (sym r.whole ∙ q.whole) in
      let one = trail_is_one lawful r.trail q.trail parts.0 in
      (n, one.1, parts.0)

  pub trail_is_accepted : {d : ℕ} {n : Node} {bs : List ℕ} → Trail w d n bs → d ≤ 4095 → w.in_goal n ≡ true
      → judge_of w (bs ++ w.end_bytes n) ≡ Ok tt
  trail_is_accepted {d} {n} {bs} t few g =
      (accepted_exactly lawful (bs ++ w.end_bytes n)).1 (record { steps = d; few = few; last = n; bytes = bs; trail = t; arrived = g; whole = refl })

  -- the same of a lent buffer that begins with those records
  pub written_is_accepted : {d : ℕ} {n : Node} {bs : List ℕ} → Trail w d n bs → d ≤ 4095 → w.in_goal n ≡ true → (out : List ℕ)
      → take ((d + 1) * 32) out ≡ bs
      → record_at out (d + 1) ≡ w.end_bytes n → judge_of w (take ((d + 1 + 1) * 32) out) ≡ Ok tt
  written_is_accepted {d} {n} {bs} t few g out e k = ap (judge_of w) (join_next d out bs (w.end_bytes n) e k) ∙ trail_is_accepted t few g
