-- What bit patterns and numbers stand for where C calls. Rests on the definitions of `point`. Assumes nothing.
use Rattle.std.specs.Prelude.{ℕ, Bool, cond}
use Rattle.point.specs.declared.Segment.{Segment}
use Rattle.point.specs.Point.{from_bits_of}

-- a segment comes as four bit patterns
unfoldable pub segment_of : ℕ → ℕ → ℕ → ℕ → Segment
segment_of ax ay bx by = (from_bits_of ax ay, from_bits_of bx by)

unfoldable pub truth_number : Bool → ℕ
truth_number b = cond b 1 0
