-- Points, their constants and their arithmetic, as document 01 has them under "Geometry". Rests on lib.Ieee's f32 and on the root of the crate `root`.
-- Assumes nothing. Each definition is what the contract of the function of that name says, with `Of` behind it: `minus_of` for `minus`, `perp_dot_of` for
-- `perp_dot`.
use Rattle.std.specs.Prelude.{ℕ, Bool, ◌&&◌, ◌||◌, Float}
use Rattle.std.specs.Float.{binary32}
use Rattle.std.specs.Float.Ieee.{of_bits, add, sub, mul, div, eq}
use Rattle.root.specs.Root.{root_of}
use Rattle.point.specs.declared.Point.{Point}
use Rattle.point.specs.declared.Segment.{Segment}

-- ---- constants

-- 0, 1 and 2
abbrev pub zero : Float
zero = of_bits binary32 0x00000000

abbrev pub one : Float
one = of_bits binary32 0x3F800000

abbrev pub two : Float
two = of_bits binary32 0x40000000

-- 16384: "Coordinates are finite, of magnitude at most 16,384."
abbrev pub limit : Float
limit = of_bits binary32 0x46800000

-- 1e-4: "Edge if its magnitude is below f32 1e-4"
abbrev pub epsilon : Float
epsilon = of_bits binary32 0x38D1B717

-- 1e-6: "in_bounding_box (its own 1e-6)"
abbrev pub box_epsilon : Float
box_epsilon = of_bits binary32 0x358637BD

-- 0.01: "either ray shorter than 0.01 gives the segment back; 0.01 slack"
abbrev pub slack : Float
slack = of_bits binary32 0x3C23D70A

-- 0.002: "its squared distance to it is below 0.002 × 0.002"
abbrev pub landing : Float
landing = of_bits binary32 0x3B03126F

-- 1e-6: "Cut points within squared distance 1e-6 of an end are passed over as written."
abbrev pub apart : Float
apart = of_bits binary32 0x358637BD

-- ---- points

-- 01, Geometry: "A point is two f32"
unfoldable pub point_of : Float → Float → Point
point_of x y = record { x = x; y = y }

-- the point whose coordinates have these bit patterns
unfoldable pub from_bits_of : ℕ → ℕ → Point
from_bits_of x y = point_of (of_bits binary32 x) (of_bits binary32 y)

unfoldable pub minus_of : Point → Point → Point
minus_of p q = record { x = sub binary32 p.x q.x; y = sub binary32 p.y q.y }

unfoldable pub plus_of : Point → Point → Point
plus_of p q = record { x = add binary32 p.x q.x; y = add binary32 p.y q.y }

-- v * by, and by * v: which operand stands first shows nowhere (proofs/Laws, times_turned)
unfoldable pub times_of : Point → Float → Point
times_of p by = record { x = mul binary32 p.x by; y = mul binary32 p.y by }

-- Rust's ==, which the derive gives: 0.0 and -0.0 are the same, and a NaN is the same as nothing
unfoldable pub same_of : Point → Point → Bool
same_of p q = eq p.x q.x && eq p.y q.y

-- whether a point is one of a segment's two ends, by ==
unfoldable pub ends_at_of : Segment → Point → Bool
ends_at_of s p = same_of p s.0 || same_of p s.1

-- ---- products and lengths

-- 01, Geometry: "dot is x·x' + y·y'"
unfoldable pub dot_of : Point → Point → Float
dot_of p q = add binary32 (mul binary32 p.x q.x) (mul binary32 p.y q.y)

-- "perp_dot is x·y' − y·x'"
unfoldable pub perp_dot_of : Point → Point → Float
perp_dot_of p q = sub binary32 (mul binary32 p.x q.y) (mul binary32 p.y q.x)

-- "length is the root of dot with itself"
unfoldable pub length_of : Point → Float
length_of p = root_of (dot_of p p)

-- the length of the difference
unfoldable pub distance_of : Point → Point → Float
distance_of p q = length_of (minus_of p q)

-- the difference's dot with itself
unfoldable pub distance_squared_of : Point → Point → Float
distance_squared_of p q = dot_of (minus_of p q) (minus_of p q)

-- "project_onto(r) is r × dot(self,r) × (1/dot(r,r)), in that order"
unfoldable pub project_onto_of : Point → Point → Point
project_onto_of p r = times_of (times_of r (dot_of p r)) (div binary32 one (dot_of r r))
