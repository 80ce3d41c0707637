-- Words compared with the bytes of a file one by one, and stored one by one: the same as all their bytes at once. Rests on the laws of words. Assumes nothing.
use Prim.Native.Nat.{ℕ, zero, suc, ◌+◌, ◌*◌, ◌^◌, ◌≤◌, ◌<◌}
use native.Mathlib.Nat.{not-suc-le-zero, le_of_suc-le-suc, add-zero}
use native.Mathlib.Omega.{arith}
use mathlib.Core.Path.{◌≡◌, refl, sym, ap, ap₂, ◌∙◌}
use mathlib.Core.Bool.{Bool}
use mathlib.Core.List.{List, [], ◌∷◌, ◌++◌, append_assoc}
use mathlib.Core.Logic.{◌⊎◌, inl, inr}
use borrow.Author.Tests.{eqb-true, eq-eqb}
use lib.Dec.{eqb}
use lib.Ieee.{Float}
use lib.ListN.{length, get_or, take, drop, set}
use lib.Seq.{sets, length-sets, take-suc, take-add, drop-drop, drop-set-lt, length-take-le}
use Rattle.counts.specs.Counts.{every}
use Rattle.counts.proofs.Laws.{every_true, every_at}
use Rattle.float.proofs.Tests.{same_test}
use Rattle.word.specs.Word.{Bytes, little_endian, bytes_of, word_at, put_word}
use Rattle.word.proofs.Bytes.{bytes_take, bytes_drop, length_bytes_of, little_endian_bytes_of, bytes_of_little_endian}
use Rattle.word.proofs.Runs.{apart_sets, sets_at, length_part}
use Rattle.route.specs.Record.{words_bytes, seed_bytes, step_bytes, end_bytes, record_at, put_record}
use Rattle.records.specs.Records.{record_bytes, seed_record, step_record, end_record}
use Rattle.point.specs.declared.Point.{Point}
use Rattle.route.specs.declared.Step.{Step}
use Rattle.records.specs.declared.Record.{Record}
use Rattle.route.specs.Judge.{same_bytes}
use Rattle.route.proofs.Bytes.{length_words_bytes}
use Rattle.route.proofs.Find.{same_true, same_of}
use Rattle.route.proofs.Trails.{same_parts}

-- ---- compared

-- the k-th word of these stands at its place
abbrev pub stands : List ℕ → ℕ → List ℕ → ℕ → Bool
stands file at ws k = eqb (word_at file (at + k * 4)) (get_or ws k 0)

word_bytes : (file : List ℕ) (at : ℕ) → Bytes file → at + 4 ≤ length file → bytes_of 4 (word_at file at) ≡ take 4 (drop at file)
unfolding word_at
word_bytes file at b h =
    let p = take 4 (drop at file) in
    ap (λ (n : ℕ). bytes_of n (little_endian p)) (sym (length_part 4 file at h))
    ∙ bytes_of_little_endian p (bytes_take 4 (drop at file) (bytes_drop at file b))

part_splits : (n : ℕ) (file : List ℕ) (at : ℕ) → take (4 + n) (drop at file) ≡ take 4 (drop at file) ++ take n (drop (at + 4) file)
part_splits n file at = take-add 4 n (drop at file) ∙ ap (λ (l : List ℕ). take 4 (drop at file) ++ take n l) (drop-drop 4 at file)

four_more : (n : ℕ) → suc n * 4 ≡ 4 + n * 4
four_more n = omega arith

next_place : (at k : ℕ) → at + suc k * 4 ≡ at + 4 + k * 4
next_place at k = omega arith

words_then_bytes : (ws file : List ℕ) (at : ℕ) → Bytes file → at + length ws * 4 ≤ length file
    → ((k : ℕ) → k < length ws → word_at file (at + k * 4) ≡ get_or ws k 0)
    → take (length ws * 4) (drop at file) ≡ words_bytes ws
unfolding words_bytes
words_then_bytes [] file at b h e = refl
words_then_bytes (w ∷ ws) file at b h e =
    let first : word_at file at ≡ w = ap (word_at file) (sym (add-zero at)) ∙ e 0 (omega arith) in
    ap (λ (n : ℕ). take n (drop at file)) (four_more (length ws))
    ∙ part_splits (length ws * 4) file at
    ∙ ap₂ ◌++◌ (sym (word_bytes file at b (omega arith)) ∙ ap (bytes_of 4) first)
    (words_then_bytes ws file (at + 4) b (omega arith) (λ k l. ap (word_at file) (sym (next_place at k)) ∙ e (suc k) (omega arith)))

bytes_then_words : (ws file : List ℕ) (at : ℕ) → at + length ws * 4 ≤ length file → ((k : ℕ) → k < length ws → get_or ws k 0 < 2 ^ 32)
    → take (length ws * 4) (drop at file) ≡ words_bytes ws
    → (k : ℕ) → k < length ws → word_at file (at + k * 4) ≡ get_or ws k 0
unfolding words_bytes word_at
bytes_then_words [] file at h small e k l = absurd (not-suc-le-zero l)
bytes_then_words (w ∷ ws) file at h small e k l =
    go k l (λ j m. bytes_then_words ws file (at + 4) (omega arith) (λ i n. small (suc i) (omega arith)) parts.1 j m)
  where
    whole : take 4 (drop at file) ++ take (length ws * 4) (drop (at + 4) file) ≡ bytes_of 4 w ++ words_bytes ws
    whole = sym (part_splits (length ws * 4) file at) ∙ ap (λ (n : ℕ). take n (drop at file)) (sym (four_more (length ws))) ∙ e

    parts : (take 4 (drop at file) ≡ bytes_of 4 w) × (take (length ws * 4) (drop (at + 4) file) ≡ words_bytes ws)
    parts =
        same_parts 4 (take 4 (drop at file)) (take (length ws * 4) (drop (at + 4) file)) (bytes_of 4 w) (words_bytes ws)
        (length_part 4 file at (omega arith)) (length_bytes_of 4 w) whole

    go : (k : ℕ) → k < suc (length ws) → ((j : ℕ) → j < length ws → little_endian (take 4 (drop (at + 4 + j * 4) file)) ≡ get_or ws j 0)
        → little_endian (take 4 (drop (at + k * 4) file)) ≡ get_or (w ∷ ws) k 0
    go zero l below =
        ap (λ (n : ℕ). little_endian (take 4 (drop n file))) (add-zero at) ∙ ap little_endian parts.0 ∙ little_endian_bytes_of 4 w (small 0 (omega arith))
    go (suc j) l below = ap (λ (n : ℕ). little_endian (take 4 (drop n file))) (next_place at j) ∙ below j (le_of_suc-le-suc l)

-- words that all stand at their places are all the bytes
pub stand_is_same : (ws file : List ℕ) (at : ℕ) → Bytes file → at + length ws * 4 ≤ length file
    → ((k : ℕ) → k < length ws → get_or ws k 0 < 2 ^ 32)
    → every (length ws) (stands file at ws) ≡ same_bytes (take (length ws * 4) (drop at file)) (words_bytes ws)
stand_is_same ws file at b h small =
    same_test (every (length ws) (stands file at ws)) (same_bytes (take (length ws * 4) (drop at file)) (words_bytes ws))
    (λ e. same_of (take (length ws * 4) (drop at file)) (words_bytes ws)
    (words_then_bytes ws file at b h (λ k l. eqb-true (word_at file (at + k * 4)) (get_or ws k 0) (every_at (length ws) (stands file at ws) e k l))))
    (λ e. every_true (length ws) (stands file at ws)
    (λ k l. eq-eqb (word_at file (at + k * 4)) (get_or ws k 0)
    (bytes_then_words ws file at h small (same_true (take (length ws * 4) (drop at file)) (words_bytes ws) e) k l)))

-- the same of a record's eight words
pub record_stands : (r : Record) (file : List ℕ) (i : ℕ) → Bytes file → (i + 1) * 32 ≤ length file → length r.words ≡ 8
    → ((k : ℕ) → k < length r.words → get_or r.words k 0 < 2 ^ 32)
    → every 8 (stands file (i * 32) r.words) ≡ same_bytes (record_at file i) (record_bytes r)
unfolding record_at record_bytes
record_stands r file i b h n small =
    ap (λ (x : ℕ). every x (stands file (i * 32) r.words)) (sym n)
    ∙ stand_is_same r.words file (i * 32) b (omega arith) small
    ∙ ap (λ (x : ℕ). same_bytes (take (x * 4) (drop (i * 32) file)) (words_bytes r.words)) n

-- ---- stored

pub sets_append : (xs ys l : List ℕ) (at : ℕ) → sets l at (xs ++ ys) ≡ sets (sets l at xs) (at + length xs) ys
sets_append [] ys l at = ap (λ (n : ℕ). sets l n ys) (sym (add-zero at))
sets_append (x ∷ xs) ys l at = sets_append xs ys (set l at x) (suc at) ∙ ap (λ (n : ℕ). sets (sets (set l at x) (suc at) xs) n ys) (place at (length xs))
  where
    place : (a n : ℕ) → suc a + n ≡ a + suc n
    place a n = omega arith

pub words_bytes_append : (vs ws : List ℕ) → words_bytes (vs ++ ws) ≡ words_bytes vs ++ words_bytes ws
unfolding words_bytes
words_bytes_append [] ws = refl
words_bytes_append (v ∷ vs) ws = ap (λ (l : List ℕ). bytes_of 4 v ++ l) (words_bytes_append vs ws) ∙ simp append_assoc

-- one word more
pub word_more : (out ws : List ℕ) (at k : ℕ) → k < length ws
    → put_word (sets out at (words_bytes (take k ws))) (at + k * 4) (get_or ws k 0) ≡ sets out at (words_bytes (take (suc k) ws))
unfolding put_word words_bytes
word_more out ws at k h =
    let n : length (words_bytes (take k ws)) ≡ k * 4 = length_words_bytes (take k ws) ∙ ap (λ (x : ℕ). x * 4) (length-take-le k ws (omega arith)) in
    ap (λ (x : ℕ). sets (sets out at (words_bytes (take k ws))) (at + x) (bytes_of 4 (get_or ws k 0))) (sym n)
    ∙ sym (sets_append (words_bytes (take k ws)) (bytes_of 4 (get_or ws k 0)) out at)
    ∙ ap (λ (l : List ℕ). sets out at l) (sym (ap words_bytes (take-suc ws k 0 h) ∙ words_bytes_append (take k ws) (get_or ws k 0 ∷ [])))

-- ---- a record that was stored

-- a record as the code has it is the record's bytes
pub seed_record_bytes : (polygon : ℕ) (start : Point) → record_bytes (seed_record polygon start) ≡ seed_bytes polygon start
unfolding record_bytes seed_record seed_bytes
seed_record_bytes polygon start = refl

pub step_record_bytes : (s : Step) → record_bytes (step_record s) ≡ step_bytes s
unfolding record_bytes step_record step_bytes
step_record_bytes s = refl

pub end_record_bytes : (points : ℕ) (goal : Point) (len : Float) → record_bytes (end_record points goal len) ≡ end_bytes points goal len
unfolding record_bytes end_record end_bytes
end_record_bytes points goal len = refl

-- what a comparison with a record by value says of the record's bytes: for a caller that made the record and asked `is_at`
pub seed_tested : (bytes : List ℕ) (polygon : ℕ) (start : Point) {r : Record} {b : Bool} → r ≡ seed_record polygon start
    → b ≡ same_bytes bytes (record_bytes r) → same_bytes bytes (seed_bytes polygon start) ≡ b
seed_tested bytes polygon start e f = ap (same_bytes bytes) (sym (seed_record_bytes polygon start) ∙ ap record_bytes (sym e)) ∙ sym f

pub step_tested : (bytes : List ℕ) (s : Step) {r : Record} {b : Bool} → r ≡ step_record s → b ≡ same_bytes bytes (record_bytes r)
    → same_bytes bytes (step_bytes s) ≡ b
step_tested bytes s e f = ap (same_bytes bytes) (sym (step_record_bytes s) ∙ ap record_bytes (sym e)) ∙ sym f

pub end_tested : (bytes : List ℕ) (points : ℕ) (goal : Point) (len : Float) {r : Record} {b : Bool} → r ≡ end_record points goal len
    → b ≡ same_bytes bytes (record_bytes r)
    → same_bytes bytes (end_bytes points goal len) ≡ b
end_tested bytes points goal len e f = ap (same_bytes bytes) (sym (end_record_bytes points goal len) ∙ ap record_bytes (sym e)) ∙ sym f

pub put_keeps_length : (file : List ℕ) (i : ℕ) (bytes : List ℕ) → length (put_record file i bytes) ≡ length file
unfolding put_record
put_keeps_length file i bytes = length-sets file (i * 32) bytes

pub put_reads_back : (file : List ℕ) (i : ℕ) (bytes : List ℕ) → length bytes ≡ 32 → (i + 1) * 32 ≤ length file
    → record_at (put_record file i bytes) i ≡ bytes
unfolding put_record record_at
put_reads_back file i bytes n h = ap (λ (x : ℕ). take x (drop (i * 32) (sets file (i * 32) bytes))) (sym n) ∙ sets_at bytes file (i * 32) (omega arith)

pub put_leaves_others : (file : List ℕ) (i : ℕ) (bytes : List ℕ) (j : ℕ) → length bytes ≡ 32 → (i < j) ⊎ (j < i)
    → record_at (put_record file i bytes) j ≡ record_at file j
unfolding put_record record_at
put_leaves_others file i bytes j n (inl h) = apart_sets 32 (j * 32) bytes file (i * 32) (inl (omega arith))
put_leaves_others file i bytes j n (inr h) = apart_sets 32 (j * 32) bytes file (i * 32) (inr (omega arith))

-- "On 0 the search fills exactly the route's bytes; those behind stay."
pub put_leaves_behind : (file : List ℕ) (i : ℕ) (bytes : List ℕ) (n : ℕ) → length bytes ≡ 32 → (i + 1) * 32 ≤ n
    → drop n (put_record file i bytes) ≡ drop n file
unfolding put_record
put_leaves_behind file i bytes n m h = behind bytes file (i * 32) (omega arith)
  where
    behind : (vs l : List ℕ) (at : ℕ) → at + length vs ≤ n → drop n (sets l at vs) ≡ drop n l
    behind [] l at g = refl
    behind (v ∷ vs) l at g = behind vs (set l at v) (suc at) (omega arith) ∙ drop-set-lt n l at v (omega arith)
