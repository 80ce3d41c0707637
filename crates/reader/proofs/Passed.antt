-- "A reader walks the caller's route bytes one record at a time": which record it stands at after so many, and that behind the last record there is none.
-- Rests on the laws of a record's bytes. Assumes nothing.
use Prim.Native.Nat.{ℕ, zero, suc, ◌+◌, ◌-◌, ◌*◌, ◌≤◌, ◌<◌}
use native.Mathlib.Numerals.{add-one}
use native.Mathlib.Nat.{zero-add, suc-add}
use native.Mathlib.Omega.{arith}
use mathlib.Core.Path.{◌≡◌, refl, ap, ◌∙◌}
use mathlib.Core.Bool.{Bool, true, false, cond}
use mathlib.Core.List.{List}
use borrow.Author.Tests.{eq-eqb, ne_eqb, eqb-true, eqb-false}
use lib.Dec.{eqb}
use lib.ListN.{length, drop, length-take, length-drop}
use denote.Ref.{Bor}
use Rattle.point.specs.declared.Point.{Point}
use Rattle.route.specs.Record.{seed_bytes, record_at, records}
use Rattle.route.specs.Judge.{same_bytes}
use Rattle.route.proofs.Bytes.{length_words_bytes}
use Rattle.route.proofs.Find.{other_of}
use Rattle.records.specs.declared.Record.{Record}
use Rattle.records.specs.Records.{record_bytes, seed_record}
use Rattle.records.proofs.Stored.{seed_tested}
use Rattle.reader.specs.Reading.{is_record, records_from, number_after, passed}

-- ---- behind the last record

-- a file that ends before the last of its 32 bytes has not this record
pub none_behind : (sought : Record) (file : List ℕ) (i : ℕ) → length sought.words ≡ 8 → records_from file i ≡ 0
    → is_record file i sought ≡ false
unfolding is_record record_at record_bytes records_from records
none_behind sought file i eight none =
    other_of _ _
    (λ same. let n : length (record_at file i) ≡ length (record_bytes sought) = ap length same in
    omega (arith, n, length-take 32 (drop (i * 32) file), length-drop (i * 32) file, length_words_bytes sought.words, eight))

-- where records are left there are this one's 32 bytes
pub one_here : (file : List ℕ) (i : ℕ) → (records_from file i ≡ 0 → ⊥) → (i + 1) * 32 ≤ length file
unfolding records_from records
one_here file i some = omega arith

-- ---- one record at a time

-- where records are left the number after this one is one more, and where none is it stays
pub goes_on : (file : List ℕ) (i : ℕ) → (records_from file i ≡ 0 → ⊥) → number_after file i ≡ i + 1
unfolding number_after
goes_on file i some = rw (ne_eqb (records_from file i) 0 some)

pub stays : (file : List ℕ) (i : ℕ) → records_from file i ≡ 0 → number_after file i ≡ i
unfolding number_after
stays file i none = rw (eq-eqb (records_from file i) 0 none)

some_left : (file : List ℕ) (i : ℕ) → i < records file → records_from file i ≡ 0 → ⊥
unfolding records_from
some_left file i h none = omega arith

none_left : (file : List ℕ) → records_from file (records file) ≡ 0
unfolding records_from
none_left file = omega arith

-- up to the last record each step leads to the one after, so that none is left out and none comes twice
pub stands_at_each : (route : Bor (List ℕ)) (k : ℕ) → k ≤ records route.now → passed route k ≡ record { route = route; number = k }
unfolding passed
stands_at_each route zero h = refl
stands_at_each route (suc k) h = rw (stands_at_each route k (omega arith), goes_on route.now k (some_left route.now k h), add-one)

-- behind the last record the reader stays
pub stays_behind : (route : Bor (List ℕ)) (k : ℕ) → passed route (k + records route.now) ≡ record { route = route; number = records route.now }
unfolding passed
stays_behind route zero = ap (passed route) (zero-add (records route.now)) ∙ stands_at_each route (records route.now) (omega arith)
stays_behind route (suc k) =
    let n = records route.now in
    ap (passed route) (suc-add k n) ∙ rw (stays_behind route k, stays route.now n (none_left route.now))

-- each step leaves one record fewer, until none is left
pub one_fewer : (file : List ℕ) (i : ℕ) → records_from file (number_after file i) ≡ records_from file i - 1
unfolding records_from number_after
one_fewer file i = by_test (eqb (records_from file i) 0) refl
  where
    by_test : (t : Bool) → eqb (records_from file i) 0 ≡ t → records_from file (cond t i (i + 1)) ≡ records_from file i - 1
    by_test true e = omega (arith, eqb-true (records_from file i) 0 e)
    by_test false e = omega (arith, eqb-false (records_from file i) 0 e)

-- ---- the first record of a route

-- a file begins with the seed's record exactly where its first bytes are the seed's
pub begins_tested : (file : List ℕ) (polygon : ℕ) (start : Point) {r : Record} {b : Bool} → r ≡ seed_record polygon start
    → b ≡ is_record file 0 r → same_bytes (record_at file 0) (seed_bytes polygon start) ≡ b
unfolding is_record
begins_tested file polygon start e f = seed_tested (record_at file 0) polygon start e f
