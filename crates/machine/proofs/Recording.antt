-- Recording never ends. Assumes nothing.
use Prim.Native.Nat.{◌+◌}
use mathlib.Core.Path.{◌≡◌, refl}
use mathlib.Core.Bool.{Bool, true, false, cond}
use lib.Dec.{ltb}
use lib.Ieee.{Float, lt}
use Rattle.machine.specs.declared.Stall.{Stall}
use Rattle.machine.specs.Search.{patience, noticed}

pub noticed_before : (s : Stall) (value : Float) → (noticed s value).recording ≡ false → s.recording ≡ false
unfolding noticed
noticed_before s value = go s.recording refl
  where
    other : Stall
    other = cond (lt s.last_f value) (record { last_f = value; count = 0; recording = false })
        (record { last_f = s.last_f; count = s.count + 1; recording = ltb patience (s.count + 1) })

    go : (a : Bool) → s.recording ≡ a → (cond a s other).recording ≡ false → s.recording ≡ false
    go true x e = e
    go false x e = x
