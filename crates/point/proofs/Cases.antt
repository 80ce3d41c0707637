-- The case of a definition that a test leads to: what a return is proved from. Assumes nothing.
use mathlib.Core.Path.{◌≡◌}
use mathlib.Core.Bool.{Bool, true, false, cond, ◌&&◌, ◌||◌}

-- ---- cond

module _ {A : Type 0} {test : Bool} {v : A} (x y : A) where
  pub taken : test ≡ true → v ≡ x → v ≡ cond test x y
  taken e h = rw e h

  pub left : test ≡ false → v ≡ y → v ≡ cond test x y
  left e h = rw e h

-- ---- and, or

module _ {v : Bool} (a b : Bool) where
  pub and_taken : a ≡ true → v ≡ b → v ≡ (a && b)
  and_taken e h = rw e h

  pub and_left : a ≡ false → v ≡ false → v ≡ (a && b)
  and_left e h = rw e h

  pub or_taken : a ≡ true → v ≡ true → v ≡ (a || b)
  or_taken e h = rw e h

  pub or_left : a ≡ false → v ≡ b → v ≡ (a || b)
  or_left e h = rw e h
