-- A record that is a step's bytes is read as that step, so that whoever has found a record to be a step may read the step off it. Rests on the laws of
-- words and of bit patterns. Assumes nothing.
use Prim.Native.Nat.{ℕ, zero, suc, ◌+◌, ◌*◌, ◌^◌, ◌≤◌, ◌<◌}
use native.Mathlib.Nat.{add-zero}
use native.Mathlib.Omega.{arith}
use mathlib.Core.Path.{◌≡◌, refl, sym, ap, ap₂, ◌∙◌}
use mathlib.Core.Bool.{true}
use mathlib.Core.List.{List}
use borrow.Author.Tests.{eqb-true}
use lib.Dec.{T}
use lib.Ieee.{Float, binary32, fits, of_bits}
use lib.Ieee.Bits.{of_bits-to_bits}
use lib.ListN.{length, get_or}
use Rattle.counts.specs.Counts.{every}
use Rattle.counts.proofs.Laws.{every_at}
use Rattle.word.specs.Word.{Bytes, word_at}
use Rattle.point.specs.declared.Point.{Point}
use Rattle.cut.specs.declared.SuccessorType.{SuccessorType}
use Rattle.route.specs.declared.Step.{Step}
use Rattle.route.specs.Step.{kind_number, kind_of, HeldPoint, Held}
use Rattle.route.specs.Record.{bits, step_words, step_bytes, record_at}
use Rattle.route.specs.Judge.{same_bytes}
use Rattle.route.proofs.Bytes.{kind_below, kind_back, bits_below}
use Rattle.route.proofs.Find.{same_of}
use Rattle.records.specs.Records.{step_record, point_in, step_in}
use Rattle.records.proofs.Stored.{stands, record_stands, step_record_bytes}

-- ---- a step's words

-- each is a u32
pub held_words : (s : Step) → Held s → (k : ℕ) → k < length (step_words s) → get_or (step_words s) k 0 < 2 ^ 32
unfolding step_words
held_words s h zero l = omega (arith, kind_below s.kind)
held_words s h (suc zero) l = h.polygon_held
held_words s h (suc (suc zero)) l = h.first_held
held_words s h (suc (suc (suc zero))) l = h.second_held
held_words s h (suc (suc (suc (suc zero)))) l = bits_below _ h.right_held.x_held
held_words s h (suc (suc (suc (suc (suc zero))))) l = bits_below _ h.right_held.y_held
held_words s h (suc (suc (suc (suc (suc (suc zero)))))) l = bits_below _ h.left_held.x_held
held_words s h (suc (suc (suc (suc (suc (suc (suc zero))))))) l = bits_below _ h.left_held.y_held
held_words s h (suc (suc (suc (suc (suc (suc (suc (suc k)))))))) l = absurd (omega arith)

-- they stand at their places exactly where the bytes are the step's
pub step_stands : (s : Step) → Held s → (file : List ℕ) → Bytes file → (i : ℕ) → (i + 1) * 32 ≤ length file
    → every 8 (stands file (i * 32) (step_words s)) ≡ same_bytes (record_at file i) (step_bytes s)
unfolding step_record step_words
step_stands s h file b i inside = record_stands (step_record s) file i b inside refl (held_words s h) ∙ ap (same_bytes (record_at file i)) (step_record_bytes s)

-- ---- read

float_is_read : (x : Float) → T (fits binary32 x) → (w : ℕ) → w ≡ bits x → of_bits binary32 w ≡ x
float_is_read x h w e = ap (of_bits binary32) e ∙ of_bits-to_bits binary32 x h

point_is_read : (p : Point) → HeldPoint p → (file : List ℕ) (at : ℕ) → word_at file at ≡ bits p.x → word_at file (at + 4) ≡ bits p.y
    → point_in file at ≡ p
unfolding point_in
point_is_read p h file at e f =
    ap₂ (λ (x y : Float). record { x = x; y = y }) (float_is_read p.x h.x_held (word_at file at) e)
    (float_is_read p.y h.y_held (word_at file (at + 4)) f)

module _ (s : Step) (h : Held s) (file : List ℕ) (b : Bytes file) (i : ℕ) (inside : (i + 1) * 32 ≤ length file)
    (e : record_at file i ≡ step_bytes s) where
  word_is : (k : ℕ) → k < 8 → word_at file (i * 32 + k * 4) ≡ get_or (step_words s) k 0
  word_is k l =
      let all : every 8 (stands file (i * 32) (step_words s)) ≡ true = step_stands s h file b i inside ∙ same_of (record_at file i) (step_bytes s) e in
      eqb-true (word_at file (i * 32 + k * 4)) (get_or (step_words s) k 0) (every_at 8 (stands file (i * 32) (step_words s)) all k l)

  first_place : word_at file (i * 32) ≡ kind_number s.kind
  unfolding step_words
  first_place = ap (word_at file) (sym (add-zero (i * 32))) ∙ word_is 0 (omega arith)

  right_is : point_in file (i * 32 + 16) ≡ s.interval.0
  unfolding step_words
  right_is =
      let at : i * 32 + 16 + 4 ≡ i * 32 + 20 = omega arith in
      point_is_read s.interval.0 h.right_held file (i * 32 + 16) (word_is 4 (omega arith)) (ap (word_at file) at ∙ word_is 5 (omega arith))

  left_is : point_in file (i * 32 + 24) ≡ s.interval.1
  unfolding step_words
  left_is =
      let at : i * 32 + 24 + 4 ≡ i * 32 + 28 = omega arith in
      point_is_read s.interval.1 h.left_held file (i * 32 + 24) (word_is 6 (omega arith)) (ap (word_at file) at ∙ word_is 7 (omega arith))

  pub step_is_read : step_in file i ≡ s
  unfolding step_in step_words
  step_is_read =
      ap₂ (λ (x : SuccessorType) (y : ℕ). record {
        kind = x;
        polygon = y;
        first = word_at file (i * 32 + 8);
        second = word_at file (i * 32 + 12);
        interval = (point_in file (i * 32 + 16), point_in file (i * 32 + 24));
      })
      (ap kind_of first_place ∙ kind_back s.kind) (word_is 1 (omega arith))
      ∙ ap₂ (λ (x y : ℕ). record {
        kind = s.kind;
        polygon = s.polygon;
        first = x;
        second = y;
        interval = (point_in file (i * 32 + 16), point_in file (i * 32 + 24));
      }) (word_is 2 (omega arith)) (word_is 3 (omega arith))
      ∙ ap₂ (λ (x y : Point). record { kind = s.kind; polygon = s.polygon; first = s.first; second = s.second; interval = (x, y) }) right_is left_is
