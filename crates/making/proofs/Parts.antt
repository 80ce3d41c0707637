-- Steps made one after the other: those of a list's front, then those of its rest. Assumes nothing.
use mathlib.Core.Path.{◌≡◌, refl, sym, ap, ◌∙◌}
use mathlib.Core.Bool.{Bool, true, false, cond}
use mathlib.Core.List.{List, [], ◌∷◌, ◌++◌}
use Rattle.std.specs.Prelude.{Option, Some, None}
use Rattle.stored.specs.Stored.{Floor}
use Rattle.route.specs.declared.Step.{Step}
use Rattle.steps.specs.Steps.{and_then}
use Rattle.machine.specs.declared.Task.{Task}
use Rattle.machine.specs.declared.Origin.{Origin}
use Rattle.machine.specs.Search.{State, Making, making, made, made_if, made_all}

-- what is made if a place was left, else what was made before
abbrev pub unless_full : Making → Making → Making
unless_full m more = cond m.full m more

module _ (f : Floor) (t : Task) (o : Origin) where
  -- ---- a step that may not be permitted

  pub made_by_step : (s : State) {step : Step} {m : Making} → m ≡ made f.vertices t s o step → {p q : Option Step} → p ≡ Some step → p ≡ q
      → m ≡ made_if f t s o q
  made_by_step s e {p} {q} y x = e ∙ ap (made_if f t s o) (sym y ∙ x)

  pub made_by_none : (s : State) {p q : Option Step} → p ≡ None → p ≡ q → making s false ≡ made_if f t s o q
  made_by_none s {p} {q} n x = ap (made_if f t s o) (sym n ∙ x)

  alone : (m : Making) → m ≡ unless_full m (making m.state false)
  alone m = go m.full
    where
      go : (b : Bool) → making m.state b ≡ cond b (making m.state b) (making m.state false)
      go true = refl
      go false = refl

  -- it is a list of one, or of none
  pub made_alone : (s : State) (p : Option Step) → made_if f t s o p ≡ made_all f t s o (and_then p [])
  unfolding made_all
  made_alone s (Some step) = alone (made f.vertices t s o step)
  made_alone s None = refl

  -- ---- several

  pub made_both : (s : State) (xs ys : List Step)
      → made_all f t s o (xs ++ ys) ≡ unless_full (made_all f t s o xs) (made_all f t (made_all f t s o xs).state o ys)
  unfolding made_all
  made_both s [] ys = refl
  made_both s (x ∷ xs) ys = go m.full refl (made_both m.state xs ys)
    where
      m : Making
      m = made f.vertices t s o x

      more : Making
      more = made_all f t m.state o xs

      go : (b : Bool) → m.full ≡ b → made_all f t m.state o (xs ++ ys) ≡ unless_full more (made_all f t more.state o ys)
          → cond b m (made_all f t m.state o (xs ++ ys)) ≡ unless_full (cond b m more) (made_all f t (cond b m more).state o ys)
      go true b e = ap (λ (full : Bool). cond full m (made_all f t m.state o ys)) (sym b)
      go false b e = e

  -- what each step keeps, all of them keep
  pub each_keeps : (P : State → Type 0) → ((s : State) (step : Step) → P s → P (made f.vertices t s o step).state)
      → (steps : List Step) (s : State)
      → P s → P (made_all f t s o steps).state
  unfolding made_all
  each_keeps P keeps [] s h = h
  each_keeps P keeps (step ∷ steps) s h = go m.full (keeps s step h) (each_keeps P keeps steps m.state (keeps s step h))
    where
      m : Making
      m = made f.vertices t s o step

      go : (b : Bool) → P m.state → P (made_all f t m.state o steps).state → P (cond b m (made_all f t m.state o steps)).state
      go true one all = one
      go false one all = all
