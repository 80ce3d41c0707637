-- The laws of a decimal: its last digit and the rest, that it is what the kit's `io` spells, and that it tells its number. Assumes nothing.
use Prim.Native.Nat.{ℕ, zero, suc, ◌+◌, ◌*◌, ◌-◌, ◌/◌, ◌%◌, ◌^◌, ◌≤◌, ◌<◌}
use mathlib.Core.Path.{◌≡◌, refl, ap, sym, ◌∙◌}
use mathlib.Core.Bool.{Bool, true, false}
use mathlib.Core.List.{List, [], ◌∷◌, ◌++◌}
use native.Mathlib.Nat.{pow-suc, one-le-pow, pow-le-pow_right, mod-eq_of_lt}
use native.Mathlib.Numerals.{unary_clauses}
use native.Mathlib.Omega.{arith}
use lib.Dec.{ltb, leb}
use lib.ListN.{length, get_or, length-append, get_or-append}
use borrow.Author.Tests.{lt-ltb, le-ltb, ltb-true, ltb-false, leb-true, leb-false}
use Rattle.io.specs.Digits.{hex_digit_ascii, last_digits as digits, IsDigitCount}
use Rattle.line.specs.Decimal.{decimal_within, decimal_of, read_behind}

-- ---- the last digit, and the rest

-- a larger bound gives the same digits
same_within : (a b n : ℕ) → n < a → n < b → decimal_within a n ≡ decimal_within b n
unfolding decimal_within
same_within zero b n h g = absurd (omega arith)
same_within (suc a) zero n h g = absurd (omega arith)
same_within (suc a) (suc b) n h g =
    go (ltb n 10) refl (λ high. same_within a b (n / 10) (omega arith) (omega arith))
  where
    go : (t : Bool) → ltb n 10 ≡ t → (10 ≤ n → decimal_within a (n / 10) ≡ decimal_within b (n / 10))
        → decimal_within (suc a) n ≡ decimal_within (suc b) n
    go true e tenth = rw e
    go false e tenth = rw (e, tenth (ltb-false n 10 e))

pub decimal_one : (n : ℕ) → n < 10 → decimal_of n ≡ (48 + n) ∷ []
unfolding decimal_of decimal_within
decimal_one n h = rw (lt-ltb n 10 h)

opened : (n : ℕ) → 10 ≤ n → decimal_of n ≡ decimal_within n (n / 10) ++ ((48 + n % 10) ∷ [])
unfolding decimal_of decimal_within
opened n h = rw (le-ltb n 10 h)

enough : (n : ℕ) → 10 ≤ n → decimal_within n (n / 10) ≡ decimal_of (n / 10)
unfolding decimal_of
enough n h = same_within n (suc (n / 10)) (n / 10) (omega arith) (omega arith)

pub decimal_more : (n : ℕ) → 10 ≤ n → decimal_of n ≡ decimal_of (n / 10) ++ ((48 + n % 10) ∷ [])
decimal_more n h = opened n h ∙ rw (enough n h)

-- what holds of one digit, and of a number where it holds of its tenth, holds of every number
pub by_tenths : (P : ℕ → Type 0) → ((n : ℕ) → n < 10 → P n) → ((n : ℕ) → 10 ≤ n → P (n / 10) → P n) → (bound n : ℕ)
    → n < bound → P n
by_tenths P one more zero n h = absurd (omega arith)
by_tenths P one more (suc bound) n h = go (ltb n 10) refl (λ high. by_tenths P one more bound (n / 10) (omega arith))
  where
    go : (t : Bool) → ltb n 10 ≡ t → (10 ≤ n → P (n / 10)) → P n
    go true e tenth = one n (ltb-true n 10 e)
    go false e tenth = more n (ltb-false n 10 e) (tenth (ltb-false n 10 e))

-- ---- what `io` spells

a_digit : (n : ℕ) → hex_digit_ascii (n % 10) ≡ 48 + n % 10
a_digit n = let low : n % 10 < 10 = omega arith in rw (lt-ltb (n % 10) 10 low)

-- the fewest digits that hold a number are its decimal
pub spelled : (k n : ℕ) → IsDigitCount 10 1 n k → digits 10 k n ≡ decimal_of n
spelled zero n f = absurd (omega arith)
spelled (suc zero) n f =
    let low : n < 10 = f.1 in
    rw (decimal_one n low, a_digit n, mod-eq_of_lt low)
spelled (suc (suc k)) n f =
    let most : n < 10 ^ suc k * 10 = rw pow-suc at f.1 in
    let least : 10 ^ k * 10 ≤ n = simp unary_clauses at (f.2 (omega arith)) in
    let some : 1 ≤ 10 ^ k = one-le-pow k 10 (omega arith) in
    rw (spelled (suc k) (n / 10) (omega arith, omega arith, λ _. simp unary_clauses (omega arith)), a_digit n, ← decimal_more n (omega arith))

-- a number of 64 bits has at most 20 digits
pub at_most_20 : (k n : ℕ) → n < 2 ^ 64 → IsDigitCount 10 1 n k → k ≤ 20
at_most_20 k n h f = go (leb k 20) refl
  where
    go : (t : Bool) → leb k 20 ≡ t → k ≤ 20
    go true e = leb-true k 20 e
    go false e =
        let more : 20 < k = leb-false k 20 e in
        let large : 10 ^ 20 ≤ 10 ^ (k - 1) = pow-le-pow_right (omega arith) {i = 20} {j = k - 1} (omega arith) in
        absurd (omega (arith, f.2 (omega arith)))

-- ---- a decimal tells its number

read_last : (read : ℕ) (digits : List ℕ) (d : ℕ) → read_behind read (digits ++ ((48 + d) ∷ [])) ≡ read_behind read digits * 10 + d
unfolding read_behind
read_last read [] d = omega arith
read_last read (x ∷ digits) d = read_last (read * 10 + (x - 48)) digits d

reads_one : (n : ℕ) → n < 10 → read_behind 0 (decimal_of n) ≡ n
unfolding read_behind
reads_one n h = rw (decimal_one n h) (omega arith)

reads_more : (n : ℕ) → 10 ≤ n → read_behind 0 (decimal_of (n / 10)) ≡ n / 10 → read_behind 0 (decimal_of n) ≡ n
reads_more n h tenth = rw (decimal_more n h, read_last, tenth) (omega arith)

pub reads_back : (n : ℕ) → read_behind 0 (decimal_of n) ≡ n
reads_back n = by_tenths (λ m. read_behind 0 (decimal_of m) ≡ m) reads_one reads_more (suc n) n (omega arith)

-- two numbers with one decimal are one
pub decimal_tells : (m n : ℕ) → decimal_of m ≡ decimal_of n → m ≡ n
decimal_tells m n e = sym (reads_back m) ∙ ap (read_behind 0) e ∙ reads_back n

-- ---- no 0 in front

abbrev Fronted : ℕ → Type 0
Fronted n = (0 < length (decimal_of n)) × (0 < n → 48 < get_or (decimal_of n) 0 0)

fronted_more : (n : ℕ) → 10 ≤ n → Fronted (n / 10) → Fronted n
fronted_more n h front =
    rw (decimal_more n h)
    (simp length-append (omega arith), λ _. rw (get_or-append (decimal_of (n / 10)) ((48 + n % 10) ∷ []) 0 0 front.0) (front.1 (omega arith)))

pub no_zero_in_front : (n : ℕ) → 0 < n → 48 < get_or (decimal_of n) 0 0
no_zero_in_front n h =
    (by_tenths Fronted (λ m low. rw (decimal_one m low) (omega arith, λ some. omega arith)) fronted_more (suc n) n (omega arith)).1 h
