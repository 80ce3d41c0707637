-- Points in a slice, one behind the other: what a point or a root that is put there leaves to be listed, and the last points by their cases. Assumes nothing.
use Prim.Native.Nat.{ℕ, suc, ◌+◌, ◌*◌, ◌≤◌}
use native.Mathlib.Omega.{arith}
use native.Mathlib.Numerals.{add-one}
use mathlib.Core.Path.{◌≡◌, refl, sym, ap, ◌∙◌, subst}
use mathlib.Core.Bool.{true, false}
use mathlib.Core.List.{List, [], ◌∷◌}
use lib.Ieee.{Float}
use lib.ListN.{length, set, length-set}
use lib.Seq.{sets}
use Rattle.std.specs.Prelude.{Option, Some, None}
use Rattle.point.specs.declared.Point.{Point}
use Rattle.helpers.specs.Helpers.{turning_point_of}
use Rattle.steps.specs.declared.Node.{Node}
use Rattle.readout.specs.Points.{last_points}
use Rattle.readout.specs.Readout.{floats_of, put_point}

-- ---- a point

pub put_more : (out : List Float) (k : ℕ) (p : Point) (ps : List Point)
    → sets (put_point out k p) ((k + 1) * 2) (floats_of ps) ≡ sets out (k * 2) (floats_of (p ∷ ps))
unfolding put_point floats_of
put_more out k p ps =
    let e : (k + 1) * 2 ≡ suc (suc (k * 2)) = omega arith in
    rw (e, add-one (k * 2))

pub put_one : (out : List Float) (k : ℕ) (p : Point) → put_point out k p ≡ sets out (k * 2) (floats_of (p ∷ []))
unfolding put_point floats_of
put_one out k p = rw (add-one (k * 2))

pub put_two : (out : List Float) (k : ℕ) (p q : Point) → put_point (put_point out k p) (k + 1) q ≡ sets out (k * 2) (floats_of (p ∷ q ∷ []))
put_two out k p q = put_one (put_point out k p) (k + 1) q ∙ put_more out k p (q ∷ [])

pub put_long : (out : List Float) (k : ℕ) (p : Point) → length (put_point out k p) ≡ length out
unfolding put_point
put_long out k p = length-set (set out (k * 2) p.x) (k * 2 + 1) p.y ∙ length-set out (k * 2) p.x

pub floats_long : (ps : List Point) → length (floats_of ps) ≡ length ps * 2
unfolding floats_of
floats_long [] = refl
floats_long (p ∷ ps) = omega (arith, floats_long ps)

-- ---- the last points

module _ (goal : Point) (node : Node) where
  pub last_of_seed : node.seed ≡ true → last_points goal node ≡ goal ∷ []
  unfolding last_points
  last_of_seed e = rw e

  pub last_around : (turn : Option Point) (p : Point) → node.seed ≡ false → turn ≡ turning_point_of node.root goal node.interval
      → turn ≡ Some p → last_points goal node ≡ p ∷ goal ∷ []
  unfolding last_points
  last_around turn p e t h = rw (e, sym t ∙ h)

  pub last_straight : (turn : Option Point) → node.seed ≡ false → turn ≡ turning_point_of node.root goal node.interval
      → turn ≡ None → last_points goal node ≡ goal ∷ []
  unfolding last_points
  last_straight turn e t h = rw (e, sym t ∙ h)

  -- the places that they take
  module _ (out : List Float) where
    pub room_for_one : (p : Point) → last_points goal node ≡ p ∷ [] → (node.points + length (last_points goal node)) * 2 ≤ length out
        → node.points * 2 + 2 ≤ length out
    room_for_one p e h =
        let n : length (last_points goal node) ≡ 1 = ap length e in
        let r : (node.points + 1) * 2 ≤ length out = subst (λ (x : ℕ). (node.points + x) * 2 ≤ length out) n h in
        omega (arith, r)

    pub room_for_two : (p q : Point) → last_points goal node ≡ p ∷ q ∷ [] → (node.points + length (last_points goal node)) * 2 ≤ length out
        → node.points * 2 + 4 ≤ length out
    room_for_two p q e h =
        let n : length (last_points goal node) ≡ 2 = ap length e in
        let r : (node.points + 2) * 2 ≤ length out = subst (λ (x : ℕ). (node.points + x) * 2 ≤ length out) n h in
        omega (arith, r)

-- ---- as a caller of put_point has them

pub long_after : (out next : List Float) (k : ℕ) (p : Point) → next ≡ put_point out k p → length next ≡ length out
long_after out next k p e = ap length e ∙ put_long out k p

pub two_after : (out next last : List Float) (k : ℕ) (p q : Point) → next ≡ put_point out k p
    → last ≡ put_point next (k + 1) q → last ≡ sets out (k * 2) (floats_of (p ∷ q ∷ []))
two_after out next last k p q e d = d ∙ ap (λ (o : List Float). put_point o (k + 1) q) e ∙ put_two out k p q
