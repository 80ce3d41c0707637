-- Every record is 32 bytes; a step's bytes tell the step; no step's bytes are an end's or a seed's. Rests on the laws of words and of bit patterns.
-- Assumes nothing.
use Prim.Native.Nat.{ℕ, ◌*◌, ◌^◌, ◌<◌}
use native.Mathlib.Omega.{arith}
use mathlib.Core.Path.{◌≡◌, refl, sym, ap, ap₂, ◌∙◌}
use mathlib.Core.List.{List, [], ◌∷◌, ◌++◌}
use lib.Dec.{T, lit<}
use lib.Ieee.{Float, binary32, fits, of_bits}
use lib.Ieee.Bits.{of_bits-to_bits, to_bits-lt}
use lib.ListN.{length, take, drop, length-append}
use lib.Seq.{take_at, drop_at}
use Rattle.word.specs.Word.{little_endian, bytes_of}
use Rattle.word.proofs.Bytes.{length_bytes_of, little_endian_bytes_of}
use Rattle.point.specs.declared.Point.{Point}
use Rattle.cut.specs.declared.SuccessorType.{SuccessorType}
use Rattle.cut.specs.declared.SuccessorType.TheVariants.{LeftNonObservable, Observable, RightNonObservable}
use Rattle.route.specs.declared.Step.{Step}
use Rattle.route.specs.Step.{kind_number, kind_of, HeldPoint, Held}
use Rattle.route.specs.Record.{words_bytes, bits, seed_words, step_words, end_words, seed_bytes, step_bytes, end_bytes}

-- ---- how many bytes

pub length_words_bytes : (ws : List ℕ) → length (words_bytes ws) ≡ length ws * 4
unfolding words_bytes
length_words_bytes [] = refl
length_words_bytes (w ∷ ws) = length-append (bytes_of 4 w) (words_bytes ws) ∙ omega (arith, length_bytes_of 4 w, length_words_bytes ws)

pub seed_is_32 : (polygon : ℕ) (start : Point) → length (seed_bytes polygon start) ≡ 32
unfolding seed_bytes seed_words
seed_is_32 polygon start = length_words_bytes (seed_words polygon start)

pub step_is_32 : (s : Step) → length (step_bytes s) ≡ 32
unfolding step_bytes step_words
step_is_32 s = length_words_bytes (step_words s)

pub end_is_32 : (points : ℕ) (goal : Point) (len : Float) → length (end_bytes points goal len) ≡ 32
unfolding end_bytes end_words
end_is_32 points goal len = length_words_bytes (end_words points goal len)

-- ---- bytes tell words

pub word_off : (w v : ℕ) (xs ys : List ℕ) → w < 2 ^ 32 → v < 2 ^ 32 → bytes_of 4 w ++ xs ≡ bytes_of 4 v ++ ys → (w ≡ v) × (xs ≡ ys)
word_off w v xs ys h k e = (
  sym (little_endian_bytes_of 4 w h)
      ∙ ap little_endian (sym (take_at (bytes_of 4 w) xs 4 (length_bytes_of 4 w)) ∙ ap (take 4) e ∙ take_at (bytes_of 4 v) ys 4 (length_bytes_of 4 v))
      ∙ little_endian_bytes_of 4 v k,
  sym (drop_at (bytes_of 4 w) xs 4 (length_bytes_of 4 w)) ∙ ap (drop 4) e ∙ drop_at (bytes_of 4 v) ys 4 (length_bytes_of 4 v),
)

-- ---- words tell values

pub bits_below : (x : Float) → T (fits binary32 x) → bits x < 2 ^ 32
bits_below x h = to_bits-lt binary32 x h

pub bits_tell : (x y : Float) → T (fits binary32 x) → T (fits binary32 y) → bits x ≡ bits y → x ≡ y
bits_tell x y h k e = sym (of_bits-to_bits binary32 x h) ∙ ap (of_bits binary32) e ∙ of_bits-to_bits binary32 y k

pub kind_below : (k : SuccessorType) → kind_number k < 5
unfolding kind_number
kind_below LeftNonObservable = lit< tt
kind_below Observable = lit< tt
kind_below RightNonObservable = lit< tt

pub kind_above : (k : SuccessorType) → 1 < kind_number k
unfolding kind_number
kind_above LeftNonObservable = lit< tt
kind_above Observable = lit< tt
kind_above RightNonObservable = lit< tt

-- a kind's number stands for it
pub kind_back : (k : SuccessorType) → kind_of (kind_number k) ≡ k
unfolding kind_of kind_number
kind_back LeftNonObservable = refl
kind_back Observable = refl
kind_back RightNonObservable = refl

pub kind_tells : (k l : SuccessorType) → kind_number k ≡ kind_number l → k ≡ l
kind_tells k l e = sym (kind_back k) ∙ ap kind_of e ∙ kind_back l

-- ---- a step's bytes tell the step

point_tells : (p q : Point) → HeldPoint p → HeldPoint q → bits p.x ≡ bits q.x → bits p.y ≡ bits q.y → p ≡ q
point_tells p q h k e f =
    ap₂ (λ (x y : Float). record { x = x; y = y }) (bits_tell p.x q.x h.x_held k.x_held e) (bits_tell p.y q.y h.y_held k.y_held f)

small : (k : SuccessorType) → kind_number k < 2 ^ 32
small k = omega (arith, kind_below k)

pub step_bytes_tell : (s t : Step) → Held s → Held t → step_bytes s ≡ step_bytes t → s ≡ t
unfolding step_bytes step_words words_bytes
step_bytes_tell s t h k e =
    let b0 = word_off _ _ _ _ (small s.kind) (small t.kind) e in
    let b1 = word_off _ _ _ _ h.polygon_held k.polygon_held b0.1 in
    let b2 = word_off _ _ _ _ h.first_held k.first_held b1.1 in
    let b3 = word_off _ _ _ _ h.second_held k.second_held b2.1 in
    let b4 = word_off _ _ _ _ (bits_below _ h.right_held.x_held) (bits_below _ k.right_held.x_held) b3.1 in
    let b5 = word_off _ _ _ _ (bits_below _ h.right_held.y_held) (bits_below _ k.right_held.y_held) b4.1 in
    let b6 = word_off _ _ _ _ (bits_below _ h.left_held.x_held) (bits_below _ k.left_held.x_held) b5.1 in
    let b7 = word_off _ _ _ _ (bits_below _ h.left_held.y_held) (bits_below _ k.left_held.y_held) b6.1 in
    let r : s.interval.0 ≡ t.interval.0 = point_tells _ _ h.right_held k.right_held b4.0 b5.0 in
    let l : s.interval.1 ≡ t.interval.1 = point_tells _ _ h.left_held k.left_held b6.0 b7.0 in
    same (kind_tells _ _ b0.0) b1.0 b2.0 b3.0 r l
  where
    same : s.kind ≡ t.kind → s.polygon ≡ t.polygon → s.first ≡ t.first → s.second ≡ t.second → s.interval.0 ≡ t.interval.0
        → s.interval.1 ≡ t.interval.1 → s ≡ t
    same a b c d r l =
        ap₂ (λ (x : SuccessorType) (y : ℕ). record { kind = x; polygon = y; first = s.first; second = s.second; interval = s.interval }) a b
        ∙ ap₂ (λ (x y : ℕ). record { kind = t.kind; polygon = t.polygon; first = x; second = y; interval = s.interval }) c d
        ∙ ap₂ (λ (x y : Point). record { kind = t.kind; polygon = t.polygon; first = t.first; second = t.second; interval = (x, y) }) r l

-- ---- the first word tells the three sorts of record apart

pub step_is_no_end : (s : Step) (points : ℕ) (goal : Point) (len : Float) → step_bytes s ≡ end_bytes points goal len → ⊥
unfolding step_bytes step_words end_bytes end_words words_bytes
step_is_no_end s points goal len e = omega (arith, kind_below s.kind, (word_off (kind_number s.kind) 5 _ _ (small s.kind) (lit< tt) e).0)

pub step_is_no_seed : (s : Step) (polygon : ℕ) (start : Point) → step_bytes s ≡ seed_bytes polygon start → ⊥
unfolding step_bytes step_words seed_bytes seed_words words_bytes
step_is_no_seed s polygon start e = omega (arith, kind_above s.kind, (word_off (kind_number s.kind) 1 _ _ (small s.kind) (lit< tt) e).0)
