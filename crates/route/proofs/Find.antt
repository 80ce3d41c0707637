-- Two lists of bytes are the same when the test says so, and the step that is sought by its bytes is found exactly where it is one of the steps.
-- Assumes nothing.
use Prim.Native.Nat.{ℕ}
use native.Mathlib.Omega.{arith}
use mathlib.Core.Path.{◌≡◌, refl, sym, ap, ap₂, ◌∙◌, subst}
use mathlib.Core.Bool.{Bool, true, false, cond}
use mathlib.Core.List.Memᴰ
use mathlib.Core.List.{List, [], ◌∷◌, ◌++◌}
use mathlib.Core.Logic.{◌↔◌, ⊎_elim}
use borrow.Author.Tests.{eqb-true, eq-eqb}
use lib.Dec.{eqb}
use Rattle.std.specs.Prelude.{Option, Some, None}
use Rattle.float.proofs.Tests.{and_true, untrue, failed}
use Rattle.route.specs.declared.Step.{Step}
use Rattle.route.specs.Step.{Held}
use Rattle.route.specs.Record.{step_bytes}
use Rattle.route.specs.World.{◌∈◌}
use Rattle.route.specs.Judge.{same_bytes, find_step, or_else}
use Rattle.route.proofs.Bytes.{step_bytes_tell}

-- ---- the same bytes

pub same_itself : (xs : List ℕ) → same_bytes xs xs ≡ true
unfolding same_bytes
same_itself [] = refl
same_itself (x ∷ xs) = rw (eq-eqb x x refl) (same_itself xs)

pub same_true : (xs ys : List ℕ) → same_bytes xs ys ≡ true → xs ≡ ys
unfolding same_bytes
same_true [] [] h = refl
same_true [] (y ∷ ys) h = untrue h
same_true (x ∷ xs) [] h = untrue h
same_true (x ∷ xs) (y ∷ ys) h =
    let t = and_true (eqb x y) (same_bytes xs ys) h in
    ap₂ {C = List ℕ} ◌∷◌ (eqb-true x y t.0) (same_true xs ys t.1)

pub same_of : (xs ys : List ℕ) → xs ≡ ys → same_bytes xs ys ≡ true
same_of xs ys e = subst (λ (z : List ℕ). same_bytes xs z ≡ true) e (same_itself xs)

pub same_decides : (xs ys : List ℕ) → same_bytes xs ys ≡ true ↔ xs ≡ ys
same_decides xs ys = (same_true xs ys, same_of xs ys)

pub other_of : (xs ys : List ℕ) → (xs ≡ ys → ⊥) → same_bytes xs ys ≡ false
other_of xs ys h = failed (same_bytes xs ys) (λ e. h (same_true xs ys e))

pub same_false : (xs ys : List ℕ) → same_bytes xs ys ≡ false → xs ≡ ys → ⊥
same_false xs ys h e = untrue (sym h ∙ same_of xs ys e)

-- ---- the search for a step, list by list

pub find_nil : (bytes : List ℕ) → find_step [] bytes ≡ None
unfolding find_step
find_nil bytes = refl

pub find_one : (s : Step) (bytes : List ℕ) → find_step (s ∷ []) bytes ≡ cond (same_bytes bytes (step_bytes s)) (Some s) None
unfolding find_step
find_one s bytes = refl

pub find_append : (xs ys : List Step) (bytes : List ℕ) → find_step (xs ++ ys) bytes ≡ or_else (find_step xs bytes) (find_step ys bytes)
unfolding find_step or_else
find_append [] ys bytes = refl
find_append (s ∷ xs) ys bytes = go (same_bytes bytes (step_bytes s)) (find_append xs ys bytes)
  where
    go : (b : Bool) → find_step (xs ++ ys) bytes ≡ or_else (find_step xs bytes) (find_step ys bytes)
        → cond b (Some s) (find_step (xs ++ ys) bytes) ≡ or_else (cond b (Some s) (find_step xs bytes)) (find_step ys bytes)
    go true e = refl
    go false e = e

-- a step that was found among the first is found; where it is missing there, the others are asked
pub find_within : (xs ys : List Step) (bytes : List ℕ) (s : Step) → find_step xs bytes ≡ Some s → find_step (xs ++ ys) bytes ≡ Some s
unfolding or_else
find_within xs ys bytes s h = find_append xs ys bytes ∙ rw h

pub find_beyond : (xs ys : List Step) (bytes : List ℕ) → find_step xs bytes ≡ None → find_step (xs ++ ys) bytes ≡ find_step ys bytes
unfolding or_else
find_beyond xs ys bytes h = find_append xs ys bytes ∙ rw h

-- ---- what was found

pub find_found : (steps : List Step) (bytes : List ℕ) (s : Step) → find_step steps bytes ≡ Some s → (s ∈ steps) × (bytes ≡ step_bytes s)
unfolding find_step
find_found [] bytes s e = let z : ◌≡◌ {A = ℕ} 0 1 = cc in absurd (omega arith)
find_found (t ∷ steps) bytes s e = go (same_bytes bytes (step_bytes t)) refl e (find_found steps bytes s)
  where
    go : (b : Bool) → same_bytes bytes (step_bytes t) ≡ b → cond b (Some t) (find_step steps bytes) ≡ Some s
        → (find_step steps bytes ≡ Some s → (s ∈ steps) × (bytes ≡ step_bytes s)) → (s ∈ (t ∷ steps)) × (bytes ≡ step_bytes s)
    go true h e below = let k : s ≡ t = cc in (Memᴰ.head k, same_true bytes (step_bytes t) h ∙ ap step_bytes (sym k))
    go false h e below = let r = below e in (Memᴰ.tail r.0, r.1)

pub find_missing : (steps : List Step) (bytes : List ℕ) → find_step steps bytes ≡ None → (s : Step) → s ∈ steps → bytes ≡ step_bytes s → ⊥
unfolding find_step
find_missing [] bytes e s m k = Memᴰ.not-nil m
find_missing (t ∷ steps) bytes e s m k = go (same_bytes bytes (step_bytes t)) refl e (find_missing steps bytes)
  where
    go : (b : Bool) → same_bytes bytes (step_bytes t) ≡ b → cond b (Some t) (find_step steps bytes) ≡ None
        → (find_step steps bytes ≡ None → (s : Step) → s ∈ steps → bytes ≡ step_bytes s → ⊥) → ⊥
    go true h e below = let z : ◌≡◌ {A = ℕ} 0 1 = cc in omega arith
    go false h e below = ⊎_elim (λ i. same_false bytes (step_bytes t) h (k ∙ ap step_bytes i)) (λ r. below e s r k) (Memᴰ.cases_cons m)

pub find_none : (steps : List Step) (bytes : List ℕ) → ((s : Step) → s ∈ steps → bytes ≡ step_bytes s → ⊥) → find_step steps bytes ≡ None
unfolding find_step
find_none [] bytes h = refl
find_none (t ∷ steps) bytes h = rw (other_of bytes (step_bytes t) (h t (Memᴰ.head refl))) (find_none steps bytes (λ s m. h s (Memᴰ.tail m)))

-- of steps that records hold, the one with these bytes is found: no other has them
pub find_is : (steps : List Step) (bytes : List ℕ) (s : Step) → ((t : Step) → t ∈ steps → Held t) → s ∈ steps → bytes ≡ step_bytes s
    → find_step steps bytes ≡ Some s
find_is steps bytes s held m e = go (find_step steps bytes) refl
  where
    go : (f : Option Step) → find_step steps bytes ≡ f → f ≡ Some s
    go (Some t) r = let p = find_found steps bytes t r in ap Some (step_bytes_tell t s (held t p.0) (held s m) (sym p.1 ∙ e))
    go None r = absurd (find_missing steps bytes r s m e)
