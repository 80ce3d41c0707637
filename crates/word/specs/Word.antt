-- A number in little-endian bytes, and a u32 at a position of a list of bytes. Definitions only, and total: past its end a list has no bytes to read,
-- and none to change. Assumes nothing.
use Rattle.std.specs.Prelude.{ℕ, zero, suc, ◌+◌, ◌*◌, ◌/◌, ◌%◌, ◌<◌, List, [], ◌∷◌, get_or, take, drop}
use Rattle.std.proofs.lemmas.List.Edits.{sets}

-- Every element is a byte, as in any slice of u8. Past its end a list counts as 0s, so nothing is asked of the index.
abbrev pub Bytes : List ℕ → Type 0
Bytes bs = (i : ℕ) → get_or bs i 0 < 256

-- the number that bytes stand for, the lowest first
unfoldable pub little_endian : List ℕ → ℕ
little_endian [] = 0
little_endian (b ∷ bs) = b + 256 * little_endian bs

-- a number's n lowest bytes, the lowest first
unfoldable pub bytes_of : ℕ → ℕ → List ℕ
bytes_of zero w = []
bytes_of (suc n) w = w % 256 ∷ bytes_of n (w / 256)

-- the u32 at a position
unfoldable pub word_at : List ℕ → ℕ → ℕ
unfolding little_endian
word_at bytes at = little_endian (take 4 (drop at bytes))

-- the bytes after a u32 was written at a position
unfoldable pub put_word : List ℕ → ℕ → ℕ → List ℕ
unfolding bytes_of
put_word bytes at w = sets bytes at (bytes_of 4 w)
