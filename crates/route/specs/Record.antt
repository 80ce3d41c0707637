-- Document 01, "The route file": the bytes of its records. "32-byte records", each of them eight u32 words, "little-endian"; a float stands there as its bits.
-- Definitions only. Assumes nothing.
use Rattle.std.specs.Prelude.{ℕ, ◌*◌, ◌/◌, List, [], ◌∷◌, ◌++◌, Float, length, take, drop}
use Rattle.std.specs.Float.{binary32}
use Rattle.std.specs.Float.Ieee.{to_bits}
use Rattle.std.proofs.lemmas.List.Edits.{sets}
use Rattle.word.specs.Word.{bytes_of}
use Rattle.point.specs.declared.Point.{Point}
use Rattle.route.specs.declared.Step.{Step}
use Rattle.route.specs.Step.{kind_number}

-- the bytes of words, each word's lowest byte first
unfoldable pub words_bytes : List ℕ → List ℕ
words_bytes [] = []
words_bytes (w ∷ ws) = bytes_of 4 w ++ words_bytes ws

-- an f32 as a word: its bits, and 0x7FC00000 for NaN
abbrev pub bits : Float → ℕ
bits x = to_bits binary32 x

-- "Seed: 1, polygon, start x, y, 16 zero bytes."
unfoldable pub seed_words : ℕ → Point → List ℕ
seed_words polygon start = 1 ∷ polygon ∷ bits start.x ∷ bits start.y ∷ 0 ∷ 0 ∷ 0 ∷ 0 ∷ []

-- "Step: kind 2, 3 or 4, polygon entered, the edge's two vertices, interval right x, y, left x, y."
unfoldable pub step_words : Step → List ℕ
step_words s =
    kind_number s.kind
    ∷ s.polygon
    ∷ s.first
    ∷ s.second
    ∷ bits s.interval.0.x
    ∷ bits s.interval.0.y
    ∷ bits s.interval.1.x
    ∷ bits s.interval.1.y
    ∷ []

-- "End: 5, number of points, goal x, y, length, 12 zero bytes."
unfoldable pub end_words : ℕ → Point → Float → List ℕ
end_words points goal len = 5 ∷ points ∷ bits goal.x ∷ bits goal.y ∷ bits len ∷ 0 ∷ 0 ∷ 0 ∷ []

unfoldable pub seed_bytes : ℕ → Point → List ℕ
seed_bytes polygon start = words_bytes (seed_words polygon start)

unfoldable pub step_bytes : Step → List ℕ
step_bytes s = words_bytes (step_words s)

unfoldable pub end_bytes : ℕ → Point → Float → List ℕ
end_bytes points goal len = words_bytes (end_words points goal len)

-- ---- records in a file

-- the record with this number, counted from 0
unfoldable pub record_at : List ℕ → ℕ → List ℕ
record_at file i = take 32 (drop (i * 32) file)

-- how many records a file has
unfoldable pub records : List ℕ → ℕ
records file = length file / 32

-- the file after a record's bytes were stored as the one with this number
unfoldable pub put_record : List ℕ → ℕ → List ℕ → List ℕ
put_record file i bytes = sets file (i * 32) bytes
