-- A text laid from a place on: what a line is made by, piece after piece. Assumes nothing.
use Rattle.std.specs.Prelude.{ℕ, ◌+◌, ◌≡◌, List, ◌++◌, length, take, drop}
use Rattle.says.specs.Words.{laid}

-- what stood before the place, and the text over what stood there
unfoldable pub put_at : ℕ → List ℕ → List ℕ → List ℕ
put_at from text before = take from before ++ laid text (drop from before)

-- a text lies in the room from a place on, over what stood there, and this is the place behind it
abbrev pub Put : ℕ → List ℕ → List ℕ → ℕ → List ℕ → Type 0
Put from text before behind room = (behind ≡ from + length text) × (room ≡ put_at from text before)
