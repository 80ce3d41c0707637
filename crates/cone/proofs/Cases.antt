-- The case of a definition that an arm leads to: what a return is proved from. Assumes nothing.
use mathlib.Core.Path.{◌≡◌}
use Rattle.std.specs.Prelude.{Option, Some, None}
use Rattle.cone.specs.declared.Part.{Part}
use Rattle.cone.specs.Cone.{if_kept}

module _ {A : Type 0} {cut : Option Part} {v : A} (then : Part → A) (else : A) where
  pub kept : {part : Part} → cut ≡ Some part → v ≡ then part → v ≡ if_kept cut then else
  kept e h = rw e h

  pub away : cut ≡ None → v ≡ else → v ≡ if_kept cut then else
  away e h = rw e h
