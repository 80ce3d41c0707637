-- The arm of a definition that a match leads to: what a return is proved from. Assumes nothing.
use mathlib.Core.Path.{◌≡◌, sym, ◌∙◌}
use Rattle.std.specs.Prelude.{Option, Some, None}
use Rattle.point.specs.declared.Point.{Point}
use Rattle.point.specs.declared.EdgeSide.{EdgeSide}
use Rattle.point.specs.declared.EdgeSide.TheVariants.{Left, Right, Edge}

-- what a call gave is y, and a match found it to be z
pub found : {A : Type 0} {x y z : A} → x ≡ y → x ≡ z → y ≡ z
found gave is = sym gave ∙ is

-- ---- sides

module _ {A : Type 0} {v : A} (side : EdgeSide) (l r e : A) where
  pub on_left : side ≡ Left → v ≡ l → v ≡ (elim side as (λ _. A) [ Left ↦ l | Right ↦ r | Edge ↦ e ])
  on_left is h = rw is h

  pub on_right : side ≡ Right → v ≡ r → v ≡ (elim side as (λ _. A) [ Left ↦ l | Right ↦ r | Edge ↦ e ])
  on_right is h = rw is h

  pub on_edge : side ≡ Edge → v ≡ e → v ≡ (elim side as (λ _. A) [ Left ↦ l | Right ↦ r | Edge ↦ e ])
  on_edge is h = rw is h

-- ---- crossings

module _ {A : Type 0} {v : A} (crossing : Option Point) (f : Point → A) (n : A) where
  pub at_point : (p : Point) → crossing ≡ Some p → v ≡ f p → v ≡ (elim crossing as (λ _. A) [ Some q ↦ f q | None ↦ n ])
  at_point p is h = rw is h

  pub at_none : crossing ≡ None → v ≡ n → v ≡ (elim crossing as (λ _. A) [ Some q ↦ f q | None ↦ n ])
  at_none is h = rw is h
