-- The numbers of the clip's answer, and what is written for it, where C calls it. Rests on the definitions of `cone`. Assumes nothing.
use Rattle.std.specs.Prelude.{ℕ, Option, Some, None, List, [], ◌∷◌}
use Rattle.std.specs.Float.{binary32}
use Rattle.std.specs.Float.Ieee.{to_bits}
use Rattle.point.specs.declared.Segment.{Segment}

unfoldable pub clipped_number : Option Segment → ℕ
clipped_number (Some s) = 1
clipped_number None = 0

-- a segment is four bit patterns, its start's x and y and then its end's
unfoldable pub segment_bits : Segment → List ℕ
segment_bits s = to_bits binary32 s.0.x ∷ to_bits binary32 s.0.y ∷ to_bits binary32 s.1.x ∷ to_bits binary32 s.1.y ∷ []

-- the segment, or what stood there
unfoldable pub clipped_written : Option Segment → List ℕ → List ℕ
clipped_written (Some s) before = segment_bits s
clipped_written None before = before
