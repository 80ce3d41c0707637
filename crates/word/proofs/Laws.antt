-- A word that was written reads back, what stands beside it stays, and a word is its four bytes. Where a law asks that `at + 4` is at most the length,
-- the word lies within the bytes; the others hold past the end too. Rests on the laws of any number of bytes, in Bytes and Runs. Assumes nothing.
use Prim.Native.Nat.{ℕ, suc, ◌+◌, ◌-◌, ◌*◌, ◌/◌, ◌%◌, ◌^◌, ◌≤◌, ◌<◌}
use mathlib.Core.Path.{◌≡◌, refl, sym, ap, ◌∙◌}
use mathlib.Core.Logic.{◌⊎◌, inl, inr}
use mathlib.Core.List.{List, [], ◌∷◌, ◌++◌, append_assoc}
use native.Mathlib.Nat.{div-div-eq-div-mul, add-zero, add_assoc}
use native.Mathlib.Numerals.{add-one, add-two, add-three}
use native.Mathlib.Omega.{arith}
use borrow.Rule.Slice.PartMut.{put_mid}
use lib.Dec.{lit<}
use lib.ListN.{length, get_or, take, drop, set, get_or-append}
use lib.Seq.{sets, sets-eq, length-sets, take_at, drop-drop, get_or-drop, get_or-take, drop-append-add}
use Rattle.std.specs.Int.{w32, to_le_bytes}
use Rattle.word.specs.Word.{Bytes, little_endian, bytes_of, word_at, put_word}
use Rattle.word.proofs.Bytes.{bytes_take, bytes_drop, bytes_sets, length_bytes_of, bytes_of_are_bytes, little_endian_bytes_of}
use Rattle.word.proofs.Bytes.{bytes_of_little_endian, little_endian_tells, little_endian_take, little_endian_tells_each}
use Rattle.word.proofs.Runs.{apart_sets, apart_byte, sets_at, sets_same, length_part}

-- ---- four bytes, each by its place: std's form of a read, and a write byte by byte

step : (n at : ℕ) (bytes : List ℕ) → little_endian (take (suc n) (drop at bytes)) ≡ get_or bytes at 0 + 256 * little_endian (take n (drop (at + 1) bytes))
step n at bytes = little_endian_take n (drop at bytes) ∙ rw (get_or-drop, add-zero, drop-drop)

pub word_by_bytes : (bytes : List ℕ) (at : ℕ)
    → word_at bytes at ≡ get_or bytes at 0 + get_or bytes (at + 1) 0 * 0x100 + get_or bytes (at + 2) 0 * 0x10000 + get_or bytes (at + 3) 0 * 0x1000000
unfolding word_at
word_by_bytes bytes at =
    rw (step 3 at bytes, step 2 (at + 1) bytes, add_assoc at 1 1, step 1 (at + 2) bytes, add_assoc at 2 1, step 0 (at + 3) bytes) (omega arith)

pub put_by_bytes : (bytes : List ℕ) (at w : ℕ)
    → put_word bytes at w ≡ set (set (set (set bytes at (w % 0x100)) (at + 1) (w / 0x100 % 0x100)) (at + 2) (w / 0x10000 % 0x100)) (at + 3)
    (w / 0x1000000 % 0x100)
unfolding put_word
put_by_bytes bytes at w = rw (add-one, add-two, add-three, div-div-eq-div-mul w 256 256, div-div-eq-div-mul w 65536 256)

-- ---- std's form of writing: the bytes of `to_le_bytes` over a part of the list

pub put_by_std : (bytes : List ℕ) (at w : ℕ) → at + 4 ≤ length bytes → put_word bytes at w ≡ put_mid at (at + 4 - at) bytes (to_le_bytes w32 w)
unfolding put_word
put_by_std bytes at w h =
    let four : at + 4 - at ≡ 4 = omega arith in
    sets-eq (bytes_of 4 w) bytes at h
    ∙ append_assoc (take at bytes) (bytes_of 4 w) (drop (at + 4) bytes)
    ∙ rw (four, drop-drop 4 at bytes, div-div-eq-div-mul w 256 256, div-div-eq-div-mul w 65536 256)

-- ---- writing

pub put_keeps_length : (bytes : List ℕ) (at w : ℕ) → length (put_word bytes at w) ≡ length bytes
unfolding put_word
put_keeps_length bytes at w = length-sets bytes at (bytes_of 4 w)

pub put_are_bytes : (bytes : List ℕ) (at w : ℕ) → Bytes bytes → Bytes (put_word bytes at w)
unfolding put_word
put_are_bytes bytes at w h = bytes_sets (bytes_of 4 w) bytes at h (bytes_of_are_bytes 4 w)

pub put_leaves_bytes : (bytes : List ℕ) (at w i : ℕ) → (i < at) ⊎ (at + 4 ≤ i) → get_or (put_word bytes at w) i 0 ≡ get_or bytes i 0
unfolding put_word
put_leaves_bytes bytes at w i h = apart_byte i 0 (bytes_of 4 w) bytes at h

pub put_leaves_words : (bytes : List ℕ) (at w i : ℕ) → (i + 4 ≤ at) ⊎ (at + 4 ≤ i) → word_at (put_word bytes at w) i ≡ word_at bytes i
unfolding word_at put_word
put_leaves_words bytes at w i (inl h) = ap little_endian (apart_sets 4 i (bytes_of 4 w) bytes at (inr h))
put_leaves_words bytes at w i (inr h) = ap little_endian (apart_sets 4 i (bytes_of 4 w) bytes at (inl h))

-- ---- writing, then reading; reading, then writing

pub put_bytes : (bytes : List ℕ) (at w : ℕ) → at + 4 ≤ length bytes → take 4 (drop at (put_word bytes at w)) ≡ bytes_of 4 w
unfolding put_word
put_bytes bytes at w h = sets_at (bytes_of 4 w) bytes at h

pub put_reads_back : (bytes : List ℕ) (at w : ℕ) → at + 4 ≤ length bytes → w < 2 ^ 32 → word_at (put_word bytes at w) at ≡ w
unfolding word_at
put_reads_back bytes at w h k = ap little_endian (put_bytes bytes at w h) ∙ little_endian_bytes_of 4 w k

pub put_of_read : (bytes : List ℕ) (at : ℕ) → at + 4 ≤ length bytes → Bytes bytes → put_word bytes at (word_at bytes at) ≡ bytes
unfolding word_at put_word
put_of_read bytes at h k =
    let p = take 4 (drop at bytes) in
    let n : length p ≡ 4 = length_part 4 bytes at h in
    ap (sets bytes at) (ap (λ (x : ℕ). bytes_of x (little_endian p)) (sym n) ∙ bytes_of_little_endian p (bytes_take 4 (drop at bytes) (bytes_drop at bytes k)))
    ∙ sets_same 4 bytes at h

-- ---- what a word says of its bytes

pub word_below : (bytes : List ℕ) (at : ℕ) → Bytes bytes → word_at bytes at < 2 ^ 32
word_below bytes at h = rw word_by_bytes (omega (arith, h at, h (at + 1), h (at + 2), h (at + 3)))

pub word_tells_bytes : (xs ys : List ℕ) (i j : ℕ) → Bytes xs → Bytes ys → i + 4 ≤ length xs → j + 4 ≤ length ys
    → word_at xs i ≡ word_at ys j → take 4 (drop i xs) ≡ take 4 (drop j ys)
unfolding word_at
word_tells_bytes xs ys i j p q h k e =
    little_endian_tells (take 4 (drop i xs)) (take 4 (drop j ys)) (bytes_take 4 (drop i xs) (bytes_drop i xs p)) (bytes_take 4 (drop j ys) (bytes_drop j ys q))
    (length_part 4 xs i h ∙ sym (length_part 4 ys j k)) e

pub word_tells_each_byte : (xs ys : List ℕ) (i j : ℕ) → Bytes xs → Bytes ys → word_at xs i ≡ word_at ys j → (k : ℕ) → k < 4
    → get_or xs (i + k) 0 ≡ get_or ys (j + k) 0
unfolding word_at
word_tells_each_byte xs ys i j p q e k h =
    sym (get_or-drop i xs k 0) ∙ little_endian_tells_each 4 (drop i xs) (drop j ys) (bytes_drop i xs p) (bytes_drop j ys q) e k h ∙ get_or-drop j ys k 0

pub bytes_tell_word : (xs ys : List ℕ) (i j : ℕ) → ((k : ℕ) → k < 4 → get_or xs (i + k) 0 ≡ get_or ys (j + k) 0) → word_at xs i ≡ word_at ys j
bytes_tell_word xs ys i j h =
    let e : get_or xs i 0 ≡ get_or ys j 0 = simp add-zero at (h 0 (lit< tt)) in
    word_by_bytes xs i ∙ rw (e, h 1 (lit< tt), h 2 (lit< tt), h 3 (lit< tt)) (sym (word_by_bytes ys j))

-- ---- a word in a part of the bytes

pub word_of_take : (n : ℕ) (bytes : List ℕ) (at : ℕ) → at + 4 ≤ n → word_at (take n bytes) at ≡ word_at bytes at
word_of_take n bytes at h = bytes_tell_word (take n bytes) bytes at at (λ k g. get_or-take n bytes (at + k) 0 (omega arith))

pub word_of_drop : (n : ℕ) (bytes : List ℕ) (at : ℕ) → word_at (drop n bytes) at ≡ word_at bytes (n + at)
unfolding word_at
word_of_drop n bytes at = rw drop-drop

pub word_in_front : (xs ys : List ℕ) (at : ℕ) → at + 4 ≤ length xs → word_at (xs ++ ys) at ≡ word_at xs at
word_in_front xs ys at h = bytes_tell_word (xs ++ ys) xs at at (λ k g. get_or-append xs ys 0 (at + k) (omega arith))

pub word_behind : (xs ys : List ℕ) (at : ℕ) → word_at (xs ++ ys) (length xs + at) ≡ word_at ys at
unfolding word_at
word_behind xs ys at = rw drop-append-add

pub word_of_bytes : (w : ℕ) (ys : List ℕ) → w < 2 ^ 32 → word_at (bytes_of 4 w ++ ys) 0 ≡ w
unfolding word_at
word_of_bytes w ys h = ap little_endian (take_at (bytes_of 4 w) ys 4 (length_bytes_of 4 w)) ∙ little_endian_bytes_of 4 w h

-- ---- examples

lowest_first : word_at (0xFF ∷ 0x78 ∷ 0x56 ∷ 0x34 ∷ 0x12 ∷ []) 1 ≡ 0x12345678
unfolding word_at
lowest_first = refl

past_the_end : word_at (0xFF ∷ 0x78 ∷ []) 1 ≡ 0x78
unfolding word_at
past_the_end = refl

written : put_word (1 ∷ 2 ∷ 3 ∷ 4 ∷ 5 ∷ 6 ∷ []) 1 0x12345678 ≡ 1 ∷ 0x78 ∷ 0x56 ∷ 0x34 ∷ 0x12 ∷ 6 ∷ []
unfolding put_word
written = refl
