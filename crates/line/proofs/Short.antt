-- No words are longer than the room that is lent for them. Assumes nothing.
use Prim.Native.Nat.{ℕ, ◌≤◌}
use mathlib.Core.Bool.{Bool, true, false, cond}
use mathlib.Core.List.{List}
use native.Mathlib.Omega.{arith}
use lib.Dec.{eqb}
use lib.ListN.{length}
use Rattle.says.specs.Words.{bytes_of, words_of, floor_words_of, route_words_of}

short : (t : Bool) (a b : List ℕ) → length a ≤ 64 → length b ≤ 64 → length (cond t a b) ≤ 64
short true a b h g = h
short false a b h g = g

pub at_most_64 : (number : ℕ) → length (words_of number) ≤ 64
unfolding words_of floor_words_of route_words_of bytes_of
at_most_64 number =
    short (eqb number 0) _ _ (omega arith)
    (short (eqb number 1) _ _ (omega arith)
    (short (eqb number 10) _ _ (omega arith)
    (short (eqb number 11) _ _ (omega arith)
    (short (eqb number 12) _ _ (omega arith)
    (short (eqb number 13) _ _ (omega arith)
    (short (eqb number 14) _ _ (omega arith)
    (short (eqb number 2) _ _ (omega arith)
    (short (eqb number 3) _ _ (omega arith)
    (short (eqb number 4) _ _ (omega arith)
    (short (eqb number 5) _ _ (omega arith)
    (short (eqb number 6) _ _ (omega arith)
    (short (eqb number 7) _ _ (omega arith)
    (short (eqb number 8) _ _ (omega arith)
    (short (eqb number 9) _ _ (omega arith)
    (short (eqb number 20) _ _ (omega arith)
    (short (eqb number 21) _ _ (omega arith)
    (short (eqb number 22) _ _ (omega arith)
    (short (eqb number 23) _ _ (omega arith)
    (omega arith)))))))))))))))))))
