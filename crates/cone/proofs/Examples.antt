-- Examples of the clip and of landing: antt computes each. Assumes nothing.
use Prim.Native.Nat.{ℕ}
use mathlib.Core.Path.{◌≡◌, refl}
use mathlib.Core.Bool.{true, false}
use lib.Ieee.{add, sub, mul, div, neg, lt, of_bits, odd, size, round}
use Rattle.std.specs.Prelude.{Option, Some, None}
use Rattle.float.specs.Units.{units_of}
use Rattle.root.specs.Root.{root_of, rounded_root, dropped, nearest_root, whole_root}
use Rattle.point.specs.declared.Point.{Point}
use Rattle.point.specs.declared.Segment.{Segment}
use Rattle.point.specs.Numbers.{0', -0', 1', 2', 3', -3'}
use Rattle.point.specs.Point.{zero, one, point_of, from_bits_of, minus_of, plus_of, times_of, dot_of, perp_dot_of, length_of, distance_squared_of}
use Rattle.cone.specs.Cone.{ray_of, cone_of, has_short_ray_of, from_right_of, from_left_of, both_outside_of, fraction_of, raised_of, lowered_of, cut_of}
use Rattle.cone.specs.Cone.{part_inside_of, part_of, clip_of, clip_to_cone_of}
use Rattle.cone.specs.Landing.{lands_on_of}
use Rattle.cone.proofs.Landing.{4e-6}

-- ---- numbers, as the bit patterns of their f32

-- 0.1, and the third float above it
abbrev tenth : ℕ
tenth = 0x3DCCCCCD

abbrev above_tenth : ℕ
above_tenth = 0x3DCCCCD0

abbrev line : ℕ → ℕ → ℕ → ℕ → Segment
line a b c d = (from_bits_of a b, from_bits_of c d)

abbrev origin : Point
origin = from_bits_of 0' 0'

-- ---- the clip, root (0,0), cone (1,0),(0,1)

unfoldable pub clipped : Segment → Option Segment
unfolding clip_to_cone_of clip_of cone_of ray_of has_short_ray_of from_right_of from_left_of both_outside_of fraction_of raised_of lowered_of cut_of part_inside_of part_of
    point_of from_bits_of minus_of plus_of times_of dot_of perp_dot_of length_of root_of rounded_root dropped nearest_root whole_root units_of add sub mul div neg lt
    of_bits odd size
clipped segment = clip_to_cone_of origin (line 1' 0' 0' 1') segment

-- 01, Fixed examples: "(2,−3),(3,−3) none"
pub wholly_below : clipped (line 2' -3' 3' -3') ≡ None
unfolding clipped
wholly_below = refl

-- 01, Easy to get wrong: "Returning segment.1 itself for hi = 1." All of (1,1),(0.1,1) is inside, and yet its end is not 0.1.
pub whole_inside : part_inside_of (cone_of origin (line 1' 0' 0' 1')) (line 1' 1' tenth 1') ≡ Some (record { lo = zero; hi = one })
unfolding clipped
whole_inside = refl

pub even_at_one : clipped (line 1' 1' tenth 1') ≡ Some (line 1' 1' above_tenth 1')
unfolding clipped
even_at_one = refl

-- A start at -0.0 comes back at 0.0.
pub even_at_zero : clipped (line -0' 1' 1' 1') ≡ Some (line 0' 1' 1' 1')
unfolding clipped
even_at_zero = refl

-- ---- landing

-- (0.0012,0.0016)
abbrev pub near : Point
near = from_bits_of 0x3A9D4952 0x3AD1B717

-- It lands on (0,0), and would not if the bound were f32 4e-6.
pub lands : lands_on_of near origin origin ≡ true
unfolding lands_on_of distance_squared_of dot_of minus_of point_of from_bits_of add sub mul neg lt of_bits odd size
lands = refl

pub not_below_4e_6 : lt (distance_squared_of near origin) 4e-6 ≡ false
unfolding distance_squared_of dot_of minus_of point_of from_bits_of add sub mul neg lt of_bits odd size round
not_below_4e_6 = refl
