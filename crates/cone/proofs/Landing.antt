-- Which float the bound of landing is. Assumes nothing.
use Prim.Native.Nat.{ℕ}
use native.Mathlib.Omega.{arith}
use mathlib.Core.Path.{◌≡◌, refl, ap, ◌∙◌, sym}
use mathlib.Core.Bool.{false}
use lib.Ieee.{Float, binary32, of_bits, to_bits, mul, round, odd, size}
use Rattle.point.specs.Point.{landing}

-- 01, A permitted step: "below 0.002 × 0.002". It is the f32 product of f32 0.002 with itself.
pub landing_squared : to_bits binary32 (mul binary32 landing landing) ≡ 0x368637BE
unfolding mul of_bits to_bits odd size
landing_squared = refl

-- f32 4e-6, which is 4 / 1000000 rounded, is the float below.
abbrev pub 4e-6 : Float
4e-6 = round binary32 false 4 1000000

pub below_landing_squared : to_bits binary32 4e-6 ≡ 0x368637BD
unfolding round to_bits odd size
below_landing_squared = refl

pub landing_squared_is_not_4e_6 : mul binary32 landing landing ≡ 4e-6 → ⊥
landing_squared_is_not_4e_6 e =
    let h : ◌≡◌ {A = ℕ} 0x368637BE 0x368637BD = sym landing_squared ∙ ap (to_bits binary32) e ∙ below_landing_squared in omega arith
