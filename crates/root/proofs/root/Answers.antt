-- `root::root` meets its contract: an f32 is what its pattern stands for, and each kind of pattern has its law. Assumes nothing.
use Rattle.std.proofs.Common.{ℕ, ◌≡◌, ◌%◌, ◌≤◌, ◌<◌, ◌^◌, sym, ap, ◌∙◌, subst, arith}
use lib.Dec.{T}
use lib.Ieee.{Float, binary32, of_bits, to_bits, div, fits}
use lib.Ieee.Bits.{of_bits-to_bits, to_bits-lt}
use Rattle.root.specs.Root.{root_of}
use Rattle.root.proofs.Patterns.{zero_pattern, negative_pattern, top_pattern, positive_pattern}
use Rattle.root.proofs.root.Goals as goal

-- x is what its pattern stands for, and the pattern has 32 digits
module _ (x : Float) {b : ℕ} (fitting : T (fits binary32 x)) (e : b ≡ to_bits binary32 x) where
  same : of_bits binary32 b ≡ x
  same = ap (of_bits binary32) e ∙ of_bits-to_bits binary32 x fitting

  short : b < 2 ^ 32
  short = rw e (to_bits-lt binary32 x fitting)

-- a pattern that is no more than -0.0's and is not -0.0's
unsigned : (b : ℕ) → (b % 0x80000000 ≡ 0 → ⊥) → b ≤ 0x80000000 → (0 < b) × (b < 0x80000000)
unsigned b h l = (omega arith, omega arith)

pub returns-then-bits-eq0 : goal.returns-then-bits-eq0
returns-then-bits-eq0 c =
    let fitting : T (fits binary32 c.args.x) = subst T (sym c.well_formed.0.1) tt in
    rw (← same c.args.x fitting c.to_bits-bits.ensures) (sym (zero_pattern _ (short c.args.x fitting c.to_bits-bits.ensures) c.if-bits-eq0.true))

pub returns-then-bits-gt2147483648 : goal.returns-then-bits-gt2147483648
unfolding div of_bits
returns-then-bits-gt2147483648 c =
    let fitting : T (fits binary32 c.args.x) = subst T (sym c.well_formed.0.1) tt in
    let e = c.to_bits-bits.ensures in
    sym (ap root_of (sym (same c.args.x fitting e)) ∙ negative_pattern c.to_bits-bits.result (short c.args.x fitting e) c.if-bits-gt2147483648.true)

pub returns-then-bits-ge2139095040 : goal.returns-then-bits-ge2139095040
returns-then-bits-ge2139095040 c =
    let fitting : T (fits binary32 c.args.x) = subst T (sym c.well_formed.0.1) tt in
    rw (← same c.args.x fitting c.to_bits-bits.ensures)
    (sym (top_pattern _ (unsigned _ c.if-bits-eq0.false c.if-bits-gt2147483648.false).1 c.if-bits-ge2139095040.true))

pub returns : goal.returns
returns c =
    let fitting : T (fits binary32 c.args.x) = subst T (sym c.well_formed.0.1) tt in
    c.from_bits.ensures
    ∙ c.pattern_root.ensures
    ∙ sym (positive_pattern c.to_bits-bits.result (unsigned _ c.if-bits-eq0.false c.if-bits-gt2147483648.false).0 c.if-bits-ge2139095040.false)
    ∙ ap root_of (same c.args.x fitting c.to_bits-bits.ensures)
