-- Bytes and the number that they stand for, for lists of any length: a number below 256 ^ n and its n bytes give each other back, so the number tells
-- the bytes. A function that reads a slice of u8 has `Bytes` of it as `λ i. c .. .shared-slice-known .given i .fits`. Assumes nothing.
use Prim.Native.Nat.{ℕ, zero, suc, ◌+◌, ◌*◌, ◌/◌, ◌%◌, ◌^◌, ◌<◌}
use mathlib.Core.Path.{◌≡◌, refl, sym, ap, ap₂, ◌∙◌}
use mathlib.Core.List.{List, [], ◌∷◌}
use native.Mathlib.Nat.{pow-succ', not-suc-le-zero, le_of_suc-le-suc}
use native.Mathlib.Omega.{arith}
use lib.Dec.{lit<}
use lib.ListN.{length, get_or, take, drop, set}
use lib.Seq.{sets}
use Rattle.word.specs.Word.{Bytes, little_endian, bytes_of}

-- ---- lists of bytes

tail : (b : ℕ) (bs : List ℕ) → Bytes (b ∷ bs) → Bytes bs
tail b bs h i = h (suc i)

pub bytes_take : (n : ℕ) (bs : List ℕ) → Bytes bs → Bytes (take n bs)
bytes_take zero bs h i = lit< tt
bytes_take (suc n) [] h i = lit< tt
bytes_take (suc n) (b ∷ bs) h zero = h zero
bytes_take (suc n) (b ∷ bs) h (suc i) = bytes_take n bs (tail b bs h) i

pub bytes_drop : (n : ℕ) (bs : List ℕ) → Bytes bs → Bytes (drop n bs)
bytes_drop zero bs h = h
bytes_drop (suc n) [] h = h
bytes_drop (suc n) (b ∷ bs) h = bytes_drop n bs (tail b bs h)

pub bytes_set : (bs : List ℕ) (i a : ℕ) → Bytes bs → a < 256 → Bytes (set bs i a)
bytes_set [] i a h k j = h j
bytes_set (b ∷ bs) zero a h k zero = k
bytes_set (b ∷ bs) zero a h k (suc j) = h (suc j)
bytes_set (b ∷ bs) (suc i) a h k zero = h zero
bytes_set (b ∷ bs) (suc i) a h k (suc j) = bytes_set bs i a (tail b bs h) k j

pub bytes_sets : (vs bs : List ℕ) (i : ℕ) → Bytes bs → Bytes vs → Bytes (sets bs i vs)
bytes_sets [] bs i h k = h
bytes_sets (a ∷ vs) bs i h k = bytes_sets vs (set bs i a) (suc i) (bytes_set bs i a h (k 0)) (tail a vs k)

-- ---- the bytes of a number

pub length_bytes_of : (n w : ℕ) → length (bytes_of n w) ≡ n
unfolding bytes_of
length_bytes_of zero w = refl
length_bytes_of (suc n) w = ap suc (length_bytes_of n (w / 256))

pub bytes_of_are_bytes : (n w : ℕ) → Bytes (bytes_of n w)
unfolding bytes_of
bytes_of_are_bytes zero w i = lit< tt
bytes_of_are_bytes (suc n) w zero = omega arith
bytes_of_are_bytes (suc n) w (suc i) = bytes_of_are_bytes n (w / 256) i

-- ---- the number of bytes

carry : (b l p q : ℕ) → b < 256 → l < p → q ≡ 256 * p → b + 256 * l < q
carry b l p q h k e = omega arith

pub little_endian_below : (bs : List ℕ) → Bytes bs → little_endian bs < 256 ^ length bs
unfolding little_endian
little_endian_below [] h = lit< tt
little_endian_below (b ∷ bs) h =
    carry b (little_endian bs) (256 ^ length bs) (256 ^ suc (length bs)) (h 0) (little_endian_below bs (tail b bs h)) (pow-succ' 256 (length bs))

-- ---- each gives the other back

high : (w p q : ℕ) → w < q → q ≡ 256 * p → w / 256 < p
high w p q h e = omega arith

lower : (w l : ℕ) → l ≡ w / 256 → w % 256 + 256 * l ≡ w
lower w l e = omega arith

pub little_endian_bytes_of : (n w : ℕ) → w < 256 ^ n → little_endian (bytes_of n w) ≡ w
unfolding little_endian bytes_of
little_endian_bytes_of zero w h = omega arith
little_endian_bytes_of (suc n) w h =
    lower w (little_endian (bytes_of n (w / 256))) (little_endian_bytes_of n (w / 256) (high w (256 ^ n) (256 ^ suc n) h (pow-succ' 256 n)))

pub bytes_of_little_endian : (bs : List ℕ) → Bytes bs → bytes_of (length bs) (little_endian bs) ≡ bs
unfolding little_endian bytes_of
bytes_of_little_endian [] h = refl
bytes_of_little_endian (b ∷ bs) h =
    let B : b < 256 = h 0 in
    let l = little_endian bs in
    let low : (b + 256 * l) % 256 ≡ b = omega arith in
    let up : (b + 256 * l) / 256 ≡ l = omega arith in
    ap₂ {C = List ℕ} ◌∷◌ low (ap (bytes_of (length bs)) up ∙ bytes_of_little_endian bs (tail b bs h))

pub little_endian_tells : (xs ys : List ℕ) → Bytes xs → Bytes ys → length xs ≡ length ys → little_endian xs ≡ little_endian ys → xs ≡ ys
little_endian_tells xs ys p q n e = sym (bytes_of_little_endian xs p) ∙ ap₂ bytes_of n e ∙ bytes_of_little_endian ys q

-- ---- the same of the first n bytes of any list, where those past its end count as 0

pub little_endian_take : (n : ℕ) (bs : List ℕ) → little_endian (take (suc n) bs) ≡ get_or bs 0 0 + 256 * little_endian (take n (drop 1 bs))
unfolding little_endian
little_endian_take zero [] = refl
little_endian_take (suc n) [] = refl
little_endian_take n (b ∷ bs) = refl

digit : (a b l m : ℕ) → a < 256 → b < 256 → a + 256 * l ≡ b + 256 * m → (a ≡ b) × (l ≡ m)
digit a b l m h k e = omega arith

first_digit : (n : ℕ) (xs ys : List ℕ) → Bytes xs → Bytes ys → little_endian (take (suc n) xs) ≡ little_endian (take (suc n) ys)
    → (get_or xs 0 0 ≡ get_or ys 0 0) × (little_endian (take n (drop 1 xs)) ≡ little_endian (take n (drop 1 ys)))
first_digit n xs ys p q e = digit (get_or xs 0 0) (get_or ys 0 0) _ _ (p 0) (q 0) (sym (little_endian_take n xs) ∙ e ∙ little_endian_take n ys)

behind_first : (xs : List ℕ) (k : ℕ) → get_or (drop 1 xs) k 0 ≡ get_or xs (suc k) 0
behind_first [] k = refl
behind_first (x ∷ xs) k = refl

pub little_endian_tells_each : (n : ℕ) (xs ys : List ℕ) → Bytes xs → Bytes ys → little_endian (take n xs) ≡ little_endian (take n ys)
    → (k : ℕ) → k < n → get_or xs k 0 ≡ get_or ys k 0
little_endian_tells_each zero xs ys p q e k h = absurd (not-suc-le-zero h)
little_endian_tells_each (suc n) xs ys p q e zero h = (first_digit n xs ys p q e).0
little_endian_tells_each (suc n) xs ys p q e (suc k) h =
    sym (behind_first xs k)
    ∙ little_endian_tells_each n (drop 1 xs) (drop 1 ys) (bytes_drop 1 xs p) (bytes_drop 1 ys q) (first_digit n xs ys p q e).1 k (le_of_suc-le-suc h)
    ∙ behind_first ys k
