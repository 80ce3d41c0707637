-- How pieces make a line: a text put behind another is put with it. Assumes nothing.
use Prim.Native.Nat.{ℕ, ◌+◌, ◌-◌, ◌≤◌}
use mathlib.Core.Path.{◌≡◌, refl, ap, sym, ◌∙◌}
use mathlib.Core.List.{List, [], ◌++◌, append_assoc, append-nil}
use native.Mathlib.Nat.{add_assoc}
use native.Mathlib.Omega.{arith}
use lib.ListN.{length, take, drop, length-append, length-drop, drop_of_length-le, take-append-drop}
use lib.Seq.{drop-drop, take-length, take_all, take_at, drop_at, length-take-le}
use Rattle.io.specs.Counts.{IsPrefixLen}
use Rattle.says.specs.Words.{laid}
use Rattle.line.specs.Put.{put_at, Put}

-- the bytes of what is laid are those at the front
pub front_is : (text before : List ℕ) {n : ℕ} {room : List ℕ} → n ≡ length text → room ≡ laid text before → take n room ≡ text
unfolding laid
front_is text before count front = rw (count, front, take_at text (drop (length text) before) (length text) refl)

-- no piece
pub put_nothing : (from : ℕ) (before : List ℕ) → before ≡ put_at from [] before
unfolding put_at laid
put_nothing from before = rw take-append-drop

-- a piece behind another
pub put_both : (from : ℕ) (text more before : List ℕ) → from ≤ length before →
    put_at (from + length text) more (put_at from text before) ≡ put_at from (text ++ more) before
unfolding put_at laid
put_both from text more before h =
    rw (
      ← append_assoc (take from before) text,
      take_at (take from before ++ text) _ (from + length text) there,
      drop_at (take from before ++ text) _ (from + length text) there,
    )
    (simp (append_assoc, drop-drop, length-append, add_assoc))
  where
    there : length (take from before ++ text) ≡ from + length text
    there = simp (length-append, length-take-le from before h)

pub next : (from : ℕ) (text more before : List ℕ) {n m : ℕ} {room after : List ℕ} → from ≤ length before →
    Put from text before n room → Put n more room m after → Put from (text ++ more) before m after
next from text more before h put behind =
    (simp length-append (omega (arith, put.0, behind.0)), behind.1 ∙ rw (put.0, put.1, put_both from text more before h))

-- a text that was put from the front on is laid there, and its bytes are counted
pub fitting : (text before : List ℕ) {n : ℕ} {room : List ℕ} → Put 0 text before n room
    → (n ≡ length text) × ((room ≡ laid text before) × IsPrefixLen n room)
unfolding put_at laid
fitting text before {n} put =
    let count : n ≡ length text = omega (arith, put.0) in
    (count, (put.1, (rw put.1 (simp length-append (omega (arith, count))), count ∙ ap length (sym (front_is text before count put.1)))))

-- a piece by way of the part of the room from its place on
pub put_part : (from : ℕ) (text room : List ℕ) {part : List ℕ} →
    part ≡ take (length text) text ++ drop (length text) (take (length room - from) (drop from room)) →
    take from room ++ (part ++ drop (length room - from) (drop from room)) ≡ put_at from text room
unfolding put_at laid
put_part from text room e =
    rw (e, take-length, take_all (length room - from) (drop from room) whole, drop_of_length-le (drop from room) whole, append-nil)
  where
    whole : length (drop from room) ≤ length room - from
    whole = simp length-drop (omega arith)
