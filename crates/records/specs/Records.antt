-- The records of the route file as the code has them, by value: eight words. Rests on the words of `route`. Definitions only. Assumes nothing.
use Rattle.std.specs.Prelude.{ℕ, ◌+◌, ◌*◌, Bool, ◌&&◌, List, eqb, Float}
use Rattle.std.specs.Float.{binary32}
use Rattle.std.specs.Float.Ieee.{of_bits}
use Rattle.word.specs.Word.{word_at}
use Rattle.point.specs.declared.Point.{Point}
use Rattle.point.specs.declared.Segment.{Segment}
use Rattle.route.specs.declared.Step.{Step}
use Rattle.route.specs.Step.{kind_of}
use Rattle.route.specs.Record.{bits, words_bytes, seed_words, step_words, end_words}
use Rattle.records.specs.declared.Record.{Record}

unfoldable pub record_bytes : Record → List ℕ
record_bytes r = words_bytes r.words

unfoldable pub seed_record : ℕ → Point → Record
seed_record polygon start = record { words = seed_words polygon start }

unfoldable pub step_record : Step → Record
step_record s = record { words = step_words s }

unfoldable pub end_record : ℕ → Point → Float → Record
end_record points goal len = record { words = end_words points goal len }

-- ---- the words of a record in a file

-- "Step: kind 2, 3 or 4, polygon entered, the edge's two vertices, interval right x, y, left x, y."
abbrev pub kind_word : List ℕ → ℕ → ℕ
kind_word file i = word_at file (i * 32)

abbrev pub polygon_word : List ℕ → ℕ → ℕ
polygon_word file i = word_at file (i * 32 + 4)

abbrev pub first_word : List ℕ → ℕ → ℕ
first_word file i = word_at file (i * 32 + 8)

abbrev pub second_word : List ℕ → ℕ → ℕ
second_word file i = word_at file (i * 32 + 12)

abbrev pub right_at : ℕ → ℕ
right_at i = i * 32 + 16

abbrev pub left_at : ℕ → ℕ
left_at i = i * 32 + 24

-- "End: 5, number of points, .."
abbrev pub points_word : List ℕ → ℕ → ℕ
points_word file i = word_at file (i * 32 + 4)

-- a point's two words stand here
unfoldable pub point_stands : Point → List ℕ → ℕ → Bool
point_stands point file at = eqb (word_at file at) (bits point.x) && eqb (word_at file (at + 4)) (bits point.y)

unfoldable pub interval_stands : Segment → List ℕ → ℕ → Bool
interval_stands interval file i = point_stands interval.0 file (right_at i) && point_stands interval.1 file (left_at i)

-- ---- a step read off a file

unfoldable pub point_in : List ℕ → ℕ → Point
point_in file at = record { x = of_bits binary32 (word_at file at); y = of_bits binary32 (word_at file (at + 4)) }

-- the step that record i is, where it is one (proofs/Read, step_is_read)
unfoldable pub step_in : List ℕ → ℕ → Step
step_in file i = record {
  kind = kind_of (kind_word file i);
  polygon = polygon_word file i;
  first = first_word file i;
  second = second_word file i;
  interval = (point_in file (right_at i), point_in file (left_at i));
}
