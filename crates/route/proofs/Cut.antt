-- Demand 3: "An accepted file cut short anywhere is refused": with 20, or with 23 where it is cut between two records. Over any lawful world. Assumes nothing.
use Prim.Native.Nat.{ℕ, ◌+◌, ◌-◌, ◌*◌, ◌/◌, ◌<◌}
use native.Mathlib.Omega.{arith}
use native.Mathlib.Decide.{dec_lt}
use mathlib.Core.Path.{◌≡◌, refl, sym, ap, ◌∙◌, subst}
use mathlib.Core.Bool.{Bool, true, false}
use mathlib.Core.List.Memᴰ
use mathlib.Core.List.{List, ◌++◌}
use mathlib.Core.Logic.{◌⊎◌, inl, inr}
use lib.ListN.{length, take}
use lib.Seq.{take_at, take-take, take-append-le, length-take-le}
use Rattle.std.specs.Prelude.{Ok, Err}
use Rattle.float.proofs.Tests.{failed}
use Rattle.route.specs.declared.Step.{Step}
use Rattle.route.specs.declared.Fault.TheVariants.{Length, NotEnd}
use Rattle.route.specs.Record.{step_bytes}
use Rattle.route.specs.World.{World, ◌∈◌, Lawful, Trail, seeded, stepped, TrueRoute}
use Rattle.route.specs.Judge.{length_right, judge_of}
use Rattle.route.specs.Verdict.{RouteLength, EndFault}
use Rattle.route.proofs.Turns.{begins_length}
use Rattle.route.proofs.Trails.{trail_long, route_long}
use Rattle.route.proofs.Verdicts.{length_told, judge_says, accepted_exactly}

-- A trail of e steps with which these bytes begin, and a step that leads out of its node.
pub record Sooner {Node : Type 0} (w : World Node) (e : ℕ) (bytes : List ℕ) : Type 0 where
  pub node : Node
  pub trail : Trail w e node (take ((e + 1) * 32) bytes)
  pub step : Step
  pub out : step ∈ w.steps_from node

module _ {Node : Type 0} {w : World Node} (lawful : Lawful w) where
  -- a trail passes every trail of fewer steps, and goes on from it
  pub trail_passes : {d : ℕ} {n : Node} {bs : List ℕ} → Trail w d n bs → (e : ℕ) → e < d → Sooner w e bs
  trail_passes seeded e h = absurd (omega arith)
  trail_passes (stepped {d = d} {n = n} {bytes = bs} {s = s} t m) e h = go (dec_lt e d) (λ b. trail_passes t e b) (trail_long lawful t)
    where
      go : Dec (e < d) → (e < d → Sooner w e bs) → length bs ≡ (d + 1) * 32 → Sooner w e (bs ++ step_bytes s)
      go (yes b) below long =
          let r = below b in
          record {
            node = r.node;
            trail = subst (Trail w e r.node) (sym (take-append-le ((e + 1) * 32) bs (step_bytes s) (omega arith))) r.trail;
            step = r.step;
            out = r.out;
          }
      go (no b) below long =
          let k : d ≡ e = omega arith in
          let all : take ((e + 1) * 32) (bs ++ step_bytes s) ≡ bs = take_at bs (step_bytes s) ((e + 1) * 32) (omega arith) in
          record { node = n; trail = subst (Trail w e n) (sym all) (subst (λ (x : ℕ). Trail w x n bs) k t); step = s; out = m }

  -- "Nothing steps out of the goal polygon."
  pub out_of_goal : (n : Node) (s : Step) → s ∈ w.steps_from n → w.in_goal n ≡ false
  out_of_goal n s m = failed (w.in_goal n) (λ g. Memᴰ.not-nil (subst (λ (steps : List Step). s ∈ steps) (lawful.goal_ends n g) m))

  module _ (file : List ℕ) (k : ℕ) (shorter : k < length file) where
    cut_fault : (r : TrueRoute w file) (long : RouteLength (take k file)) → EndFault w (take k file) (long.records - 1)
    cut_fault r long =
        let n : length (take k file) ≡ k = length-take-le k file (omega arith) in
        let l : length file ≡ 32 * (r.steps + 2) = route_long lawful r in
        let few : long.records - 2 < r.steps = omega (arith, long.whole, long.least) in
        let s = trail_passes r.trail (long.records - 2) few in
        let c : long.records - 1 ≡ long.records - 2 + 1 = omega (arith, long.least) in
        let bytes : take ((long.records - 2 + 1) * 32) r.bytes ≡ take ((long.records - 1) * 32) (take k file) =
        sym (take-append-le ((long.records - 2 + 1) * 32) r.bytes (w.end_bytes r.last) (omega (arith, trail_long lawful r.trail)))
        ∙ ap (take ((long.records - 2 + 1) * 32)) (sym r.whole)
        ∙ ap (λ (x : ℕ). take (x * 32) file) (sym c)
        ∙ sym (take-take ((long.records - 1) * 32) k file (omega (arith, long.whole))) in
        record {
          long = long;
          last = omega (arith, long.least);
          node = s.node;
          before = record { steps = long.records - 2; count = c; trail = subst (Trail w (long.records - 2) s.node) bytes s.trail };
          wrong = inl (out_of_goal s.node s.step s.out);
        }

    pub cut_is_refused : judge_of w file ≡ Ok tt → (judge_of w (take k file) ≡ Err Length) ⊎ (judge_of w (take k file) ≡ Err (NotEnd (k / 32 - 1)))
    cut_is_refused a = go (length_right (take k file)) refl
      where
        go : (b : Bool) → length_right (take k file) ≡ b
            → (judge_of w (take k file) ≡ Err Length) ⊎ (judge_of w (take k file) ≡ Err (NotEnd (k / 32 - 1)))
        go false b = inl (begins_length w (take k file) b)
        go true b =
            let long = length_told (take k file) b in
            let n : length (take k file) ≡ k = length-take-le k file (omega arith) in
            let last : long.records - 1 ≡ k / 32 - 1 = omega (arith, long.whole) in
            inr (judge_says lawful (take k file) (Err (NotEnd (long.records - 1))) (cut_fault ((accepted_exactly lawful file).0 a) long)
            ∙ ap (λ (x : ℕ). Err (NotEnd x)) last)
