-- By the plan of an accepted floor a vertex is told to turn exactly where it does. Assumes nothing.
use Prim.Native.Nat.{ℕ}
use mathlib.Core.Path.{◌≡◌, refl}
use mathlib.Core.Bool.{Bool, true, false, cond}
use mathlib.Core.List.{List}
use borrow.Author.Tests.{ltb-true}
use lib.Dec.{ltb}
use Rattle.plan.specs.Plan.{is_marked}
use Rattle.stored.specs.Stored.{floor_of}
use Rattle.edges.specs.Where.{plan_of, is_turn}
use Rattle.edges.proofs.Turned.{plan_turns}
use Rattle.floor_c.specs.Numbers.{marks_of, mark_number}

pub marks_told : (s : ℕ) (vs ps : List ℕ) {plan : List ℕ} → plan ≡ plan_of s vs ps → (v : ℕ)
    → mark_number (is_marked plan) v ≡ mark_number (marks_of (floor_of s vs ps)) v
unfolding mark_number
marks_told s vs ps {plan} e v = go (ltb v 1024) refl
  where
    go : (b : Bool) → ltb v 1024 ≡ b → ◌≡◌ {A = ℕ} (cond b (cond (is_marked plan v) 1 0) 0) (cond b (cond (is_turn (floor_of s vs ps) v) 1 0) 0)
    go true h = rw (e, plan_turns s vs ps v (ltb-true v 1024 h))
    go false h = refl
