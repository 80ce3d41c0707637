-- Distances and heuristics carry no minus sign, so that the sum of two that are no NaN is none. Assumes nothing.
use Prim.Native.Nat.{ℕ, zero, suc, ◌+◌, ◌*◌, ◌^◌}
use mathlib.Core.Path.{sym, subst}
use mathlib.Core.Bool.{Bool, true, false, not, cond}
use lib.Dec.{T, ltb, eqb}
use lib.Ieee.{Float, nan, inf, fin, Format, binary32, prec, low, emax, odd, units, round, sum, add, mul, is_nan, lt}
use lib.Ieee.Fits.{round_is}
use Rattle.root.specs.Root.{root_of, rounded_root, square_units}
use Rattle.point.specs.declared.Point.{Point}
use Rattle.point.specs.declared.Segment.{Segment}
use Rattle.point.specs.Point.{dot_of, length_of, ends_at_of, distance_of}
use Rattle.helpers.specs.Helpers.{heuristic_of}
use Rattle.machine.specs.Sound.{is_plus}

-- without a minus sign, and a number
abbrev Plain : Float → Type 0
Plain x = T (is_plus x) × T (not (is_nan x))

odd_plain : (d q k l : ℕ) → Plain (odd d false q k l)
unfolding odd is_nan
odd_plain d zero k l = (tt, tt)
odd_plain d (suc q) k l = (tt, tt)

units_plain : (f : Format) (q k : ℕ) → Plain (units f false q k)
unfolding units
units_plain f q k = go (ltb (q * 2 ^ k) (2 ^ (low f + suc (emax f))))
  where
    go : (b : Bool) → Plain (cond b (odd (suc (prec f)) false q k (low f)) (inf false))
    go true = odd_plain (suc (prec f)) q k (low f)
    go false = unfold is_nan in (tt, tt)

round_plain : (f : Format) (num den : ℕ) → Plain (round f false num den)
round_plain f num den = subst Plain (sym (round_is f false num den)) (units_plain f _ _)

-- ---- sums

pub add_plus : (f : Format) (x y : Float) → T (is_plus x) → T (is_plus y) → T (is_plus (add f x y))
unfolding add sum
add_plus f nan y a b = tt
add_plus f (inf s) nan a b = tt
add_plus f (inf false) (inf false) a b = tt
add_plus f (inf false) (inf true) a b = tt
add_plus f (inf true) (inf t) a b = absurd a
add_plus f (inf s) (fin t n d) a b = a
add_plus f (fin s m e) nan a b = tt
add_plus f (fin s m e) (inf t) a b = b
add_plus f (fin false m e) (fin false n d) a b = (round_plain f _ _).0
add_plus f (fin false m e) (fin true n d) a b = absurd b
add_plus f (fin true m e) (fin t n d) a b = absurd a

pub add_no_nan : (f : Format) (x y : Float) → T (is_plus x) → T (is_plus y) → T (not (is_nan x)) → T (not (is_nan y)) → T (not (is_nan (add f x y)))
unfolding add sum is_nan
add_no_nan f nan y a b c d = c
add_no_nan f (inf s) nan a b c d = d
add_no_nan f (inf false) (inf false) a b c d = tt
add_no_nan f (inf false) (inf true) a b c d = absurd b
add_no_nan f (inf true) (inf t) a b c d = absurd a
add_no_nan f (inf s) (fin t n e) a b c d = tt
add_no_nan f (fin s m e) nan a b c d = d
add_no_nan f (fin s m e) (inf t) a b c d = tt
add_no_nan f (fin false m e) (fin false n g) a b c d = (round_plain f _ _).1
add_no_nan f (fin false m e) (fin true n g) a b c d = absurd b
add_no_nan f (fin true m e) (fin t n g) a b c d = absurd a

-- ---- lengths

square_plus : (f : Format) (x : Float) → T (is_plus (mul f x x))
unfolding mul
square_plus f nan = tt
square_plus f (inf false) = tt
square_plus f (inf true) = tt
square_plus f (fin false m e) = (round_plain f _ _).0
square_plus f (fin true m e) = (round_plain f _ _).0

root_plus : (x : Float) → T (is_plus x) → T (is_plus (root_of x))
unfolding root_of rounded_root
root_plus nan h = tt
root_plus (inf false) h = tt
root_plus (inf true) h = tt
root_plus (fin true m e) h = absurd h
root_plus (fin false m e) h = go (eqb m 0)
  where
    go : (b : Bool) → T (is_plus (cond b (fin false m e) (rounded_root (square_units (fin false m e)))))
    go true = tt
    go false = (odd_plain _ _ _ _).0

pub distance_plus : (p q : Point) → T (is_plus (distance_of p q))
unfolding distance_of length_of dot_of
distance_plus p q = root_plus _ (add_plus binary32 _ _ (square_plus binary32 _) (square_plus binary32 _))

pub plus_if : (b : Bool) (x y : Float) → T (is_plus x) → T (is_plus y) → T (is_plus (cond b x y))
plus_if true x y h k = h
plus_if false x y h k = k

pub heuristic_plus : (root goal : Point) (interval : Segment) → T (is_plus (heuristic_of root goal interval))
unfolding heuristic_of
heuristic_plus root goal interval =
    plus_if (ends_at_of interval root) _ _ (distance_plus _ _)
    (plus_if (lt _ _) _ _ (add_plus binary32 _ _ (distance_plus _ _) (distance_plus _ _))
    (plus_if (lt _ _) _ _ (add_plus binary32 _ _ (distance_plus _ _) (distance_plus _ _)) (distance_plus _ _)))
