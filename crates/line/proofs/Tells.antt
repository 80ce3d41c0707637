-- A line tells its number and its record: no two have the same line. The byte behind a decimal is no digit, so it is read back. Assumes nothing.
use Prim.Native.Nat.{ℕ, suc, ◌+◌, ◌/◌, ◌%◌, ◌≤◌, ◌<◌}
use mathlib.Core.Path.{◌≡◌, refl, ap, sym, ◌∙◌}
use mathlib.Core.Bool.{Bool, true, false, cond}
use mathlib.Core.List.{List, [], ◌∷◌, ◌++◌, append_assoc, append-nil}
use native.Mathlib.Omega.{arith}
use lib.Dec.{eqb, ltb, leb}
use lib.ListN.{length, get_or, drop}
use lib.Seq.{drop_at}
use borrow.Author.Tests.{lt-ltb, le-leb}
use Rattle.told.specs.declared.Told.{Told}
use Rattle.told.specs.declared.Told.TheVariants.{Alone, AtRecord, WithCount}
use Rattle.told.specs.Told.{number_of, record_of}
use Rattle.says.specs.Words.{bytes_of, words_of}
use Rattle.line.specs.Decimal.{decimal_of}
use Rattle.line.specs.Line.{record_part, gap_of, line_of}
use Rattle.line.proofs.Decimals.{decimal_one, decimal_more, by_tenths, decimal_tells}

-- ---- the digits in front

unfoldable digits_of : List ℕ → List ℕ
digits_of [] = []
digits_of (b ∷ more) = cond (leb 48 b) (cond (ltb b 58) (b ∷ digits_of more) []) []

a_digit : (d : ℕ) → d < 10 → (rest : List ℕ) → digits_of ((48 + d) ∷ rest) ≡ (48 + d) ∷ digits_of rest
unfolding digits_of
a_digit d h rest = rw (le-leb 48 (48 + d) (omega arith), lt-ltb (48 + d) 58 (omega arith))

abbrev Read : ℕ → Type 0
Read n = (rest : List ℕ) → digits_of (decimal_of n ++ rest) ≡ decimal_of n ++ digits_of rest

read_more : (n : ℕ) → 10 ≤ n → Read (n / 10) → Read n
read_more n h tenth rest =
    rw (decimal_more n h) (simp (append_assoc, tenth, a_digit (n % 10) (omega arith) rest))

all_read : (n : ℕ) → Read n
all_read n = by_tenths Read (λ m low rest. rw (decimal_one m low) (a_digit m low rest)) read_more (suc n) n (omega arith)

-- a decimal before a byte that is no digit
just_read : (n : ℕ) (rest : List ℕ) → digits_of rest ≡ [] → digits_of (decimal_of n ++ rest) ≡ decimal_of n
just_read n rest h = rw (all_read n rest, h, append-nil)

decimal_and_rest : (m n : ℕ) (u v : List ℕ) → digits_of u ≡ [] → digits_of v ≡ [] → decimal_of m ++ u ≡ decimal_of n ++ v → (m ≡ n) × (u ≡ v)
decimal_and_rest m n u v hu hv e =
    let same : decimal_of m ≡ decimal_of n = sym (just_read m u hu) ∙ ap digits_of e ∙ just_read n v hv in
    let left = drop_at (decimal_of m) u (length (decimal_of m)) refl in
    let right = drop_at (decimal_of n) v (length (decimal_of m)) (ap length (sym same)) in
    (decimal_tells m n same, sym left ∙ ap (drop (length (decimal_of m))) e ∙ right)

-- ---- the line

abbrev behind : ℕ → List ℕ
behind n = gap_of n ++ (words_of n ++ bytes_of "\n")

abbrev rest : ℕ → Told → List ℕ
rest n told = record_part told ++ behind n

split : (told : Told) → line_of told ≡ decimal_of (number_of told) ++ rest (number_of told) told
unfolding line_of
split told = simp append_assoc

-- what stands before the words: a space before those of 0, which begin otherwise than a record's part, and a colon before all others
behind_accepted : (n : ℕ) → eqb n 0 ≡ true → (digits_of (behind n) ≡ []) × (get_or (behind n) 2 0 ≡ 99)
unfolding digits_of gap_of words_of bytes_of
behind_accepted n e = rw e (refl, refl)

behind_wrong : (n : ℕ) → eqb n 0 ≡ false → (digits_of (behind n) ≡ []) × (get_or (behind n) 0 0 ≡ 58)
unfolding digits_of gap_of bytes_of
behind_wrong n e = rw e (refl, refl)

no_digit_behind : (n : ℕ) → digits_of (behind n) ≡ []
no_digit_behind n = go (eqb n 0) refl
  where
    go : (t : Bool) → eqb n 0 ≡ t → digits_of (behind n) ≡ []
    go true e = (behind_accepted n e).0
    go false e = (behind_wrong n e).0

no_digit : (n : ℕ) (told : Told) → digits_of (rest n told) ≡ []
unfolding digits_of record_part bytes_of
no_digit n (Alone number) = no_digit_behind n
no_digit n (AtRecord number i) = refl
no_digit n (WithCount number count) = no_digit_behind n

a_record_is_said : (n i m : ℕ) (t : Bool) → eqb n 0 ≡ t → rest n (AtRecord m i) ≡ behind n → ⊥
unfolding record_part bytes_of
a_record_is_said n i m true e same =
    let third : ◌≡◌ {A = ℕ} 116 99 = ap (λ l. get_or l 2 0) same ∙ (behind_accepted n e).1 in
    omega (arith, third)
a_record_is_said n i m false e same =
    let first : ◌≡◌ {A = ℕ} 32 58 = ap (λ l. get_or l 0 0) same ∙ (behind_wrong n e).1 in
    omega (arith, first)

same_record : (n : ℕ) (a b : Told) → rest n a ≡ rest n b → record_of a ≡ record_of b
unfolding record_of record_part bytes_of
same_record n (AtRecord m i) (AtRecord k j) e =
    ap (λ lowest. lowest ∷ []) (decimal_and_rest i j (behind n) (behind n) (no_digit_behind n) (no_digit_behind n) (ap (drop 11) e)).0
same_record n (AtRecord m i) (Alone k) e = absurd (a_record_is_said n i m (eqb n 0) refl e)
same_record n (AtRecord m i) (WithCount k count) e = absurd (a_record_is_said n i m (eqb n 0) refl e)
same_record n (Alone m) (AtRecord k j) e = absurd (a_record_is_said n j k (eqb n 0) refl (sym e))
same_record n (WithCount m count) (AtRecord k j) e = absurd (a_record_is_said n j k (eqb n 0) refl (sym e))
same_record n (Alone m) (Alone k) e = refl
same_record n (Alone m) (WithCount k count) e = refl
same_record n (WithCount m count) (Alone k) e = refl
same_record n (WithCount m count) (WithCount k other) e = refl

-- two lines that are the same are of one number and one record
pub line_tells : (a b : Told) → line_of a ≡ line_of b → (number_of a ≡ number_of b) × (record_of a ≡ record_of b)
line_tells a b e =
    let m = number_of a in
    let n = number_of b in
    let parts = decimal_and_rest m n (rest m a) (rest n b) (no_digit m a) (no_digit n b) (sym (split a) ∙ e ∙ split b) in
    (parts.0, same_record n a b (rw parts.0 at parts.1))
