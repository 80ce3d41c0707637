-- Document 01, "Fixed examples": the starred ones, in its order, as one table of what is asked and what is to come out. Each function is meant as its
-- definition, which its contract equals. Assumes nothing.
use Rattle.std.specs.Prelude.{ℕ, ◌≡◌, Option, Some, None, List, [], ◌∷◌, Float}
use Rattle.std.specs.Float.{binary32}
use Rattle.std.specs.Float.Ieee.{of_bits, to_bits}
use Rattle.point.specs.declared.Point.{Point}
use Rattle.point.specs.declared.Segment.{Segment}
use Rattle.point.specs.declared.EdgeSide.{EdgeSide}
use Rattle.point.specs.declared.EdgeSide.TheVariants.{Left, Right, Edge}
use Rattle.point.specs.Numbers.{0', half, 1', 2', 3', 4', -1', -3'}
use Rattle.point.specs.Point.{from_bits_of}
use Rattle.point.specs.Sides.{side_of}
use Rattle.helpers.specs.Helpers.{intersection_time_of, line_intersect_segment_of, heuristic_of, turning_point_of}
use Rattle.cone.specs.Cone.{clip_to_cone_of}
use Rattle.root.specs.Root.{root_of}

-- ---- numbers, as the bit patterns of their f32

-- f32 1e-4, and the float below
abbrev epsilon' : ℕ
epsilon' = 0x38D1B717

abbrev below_epsilon' : ℕ
below_epsilon' = 0x38D1B716

abbrev nan' : ℕ
nan' = 0x7FC00000

abbrev f32 : ℕ → Float
f32 = of_bits binary32

abbrev line : ℕ → ℕ → ℕ → ℕ → Segment
line a b c d = (from_bits_of a b, from_bits_of c d)

-- ---- what a row says

pub data Row : Type 0 where
  side : Point → Segment → EdgeSide → Row
  meets : Segment → Segment → Option Point → Row
  time : Segment → Segment → Float → Row
  heuristic : Point → Point → Segment → Float → Row
  turning_point : Point → Point → Segment → Option Point → Row
  clip : Point → Segment → Segment → Option Segment → Row
  root : ℕ → ℕ → Row

abbrev pub Holds : Row → Type 0
Holds (side p l s) = side_of p l ≡ s
Holds (meets l s c) = line_intersect_segment_of l s ≡ c
Holds (time l s t) = intersection_time_of l s ≡ t
Holds (heuristic r g i h) = heuristic_of r g i ≡ h
Holds (turning_point r g i t) = turning_point_of r g i ≡ t
Holds (clip r c s seen) = clip_to_cone_of r c s ≡ seen
Holds (root x r) = to_bits binary32 (root_of (f32 x)) ≡ r

abbrev pub Every : List Row → Type 0
Every [] = Unit {0}
Every (row ∷ rows) = Holds row × Every rows

-- ---- the table

unfoldable pub table : List Row
table =
    -- "side of (0,1) to (0,0)-(1,0): Left. (0, f32 1e-4): Left; the float below: Edge; NaN: Right."
    side (from_bits_of 0' 1') (line 0' 0' 1' 0') Left
    ∷ side (from_bits_of 0' epsilon') (line 0' 0' 1' 0') Left
    ∷ side (from_bits_of 0' below_epsilon') (line 0' 0' 1' 0') Edge
    ∷ side (from_bits_of 0' nan') (line 0' 0' 1' 0') Right
    -- "(0,0)-(2,2) meets (2,0)-(0,2) at (1,1), time 0.5. (0,0)-(1,0) and itself: none."
    ∷ meets (line 0' 0' 2' 2') (line 2' 0' 0' 2') (Some (from_bits_of 1' 1'))
    ∷ time (line 0' 0' 2' 2') (line 2' 0' 0' 2') (f32 half)
    ∷ meets (line 0' 0' 1' 0') (line 0' 0' 1' 0') None
    -- "Interval (1,2),(−1,2), root (0,0): heuristic to (0,4) is 4, to (0,1) 3; turning_point for (4,4) (1,2)."
    ∷ heuristic (from_bits_of 0' 0') (from_bits_of 0' 4') (line 1' 2' -1' 2') (f32 4')
    ∷ heuristic (from_bits_of 0' 0') (from_bits_of 0' 1') (line 1' 2' -1' 2') (f32 3')
    ∷ turning_point (from_bits_of 0' 0') (from_bits_of 4' 4') (line 1' 2' -1' 2') (Some (from_bits_of 1' 2'))
    -- "Clip, root (0,0), cone (1,0),(0,1): (2,−3),(3,−3) none."
    ∷ clip (from_bits_of 0' 0') (line 1' 0' 0' 1') (line 2' -3' 3' -3') None
    -- "root of 2 is 0x3FB504F3; of 0x00000001, 0x1A3504F3."
    ∷ root 2' 0x3FB504F3
    ∷ root 0x00000001 0x1A3504F3
    ∷ []
