-- What a function that is handed a record knows of its words: there are eight, and each is a u32. Assumes nothing.
use Prim.Native.Nat.{ℕ, zero, suc, ◌^◌, ◌<◌}
use native.Mathlib.Nat.{not-suc-le-zero, le_of_suc-le-suc}
use mathlib.Core.Path.{◌≡◌, refl, sym, ap, ◌∙◌, subst}
use mathlib.Core.List.{List, [], ◌∷◌, map}
use lib.ListN.{length, get_or}
use mir.Syntax.{w32}
use mir.Val.{Val}
use denote.Plain.{UInt}
use denote.Array.{each}
use denote.Shadow.{shadow}

same_map : (xs : List ℕ) → map (λ v. v) xs ≡ xs
same_map [] = refl
same_map (x ∷ xs) = ap (λ (l : List ℕ). x ∷ l) (same_map xs)

-- the array's own length, as a field of a struct has it
pub words_length : (xs : List ℕ) → length (map (λ v. v) xs) ≡ 8 → length xs ≡ 8
words_length xs e = ap length (sym (same_map xs)) ∙ e

each_below : (xs : List ℕ) (us : List Val) → shadow (each ℕ (UInt w32).own_val xs us) → (k : ℕ) → k < length xs → get_or xs k 0 < 2 ^ 32
each_below [] us s k l = absurd (not-suc-le-zero l)
each_below (x ∷ xs) [] s k l = absurd s
each_below (x ∷ xs) (u ∷ us) s zero l = s.0.1
each_below (x ∷ xs) (u ∷ us) s (suc k) l = each_below xs us s.1 k (le_of_suc-le-suc l)

pub words_below : (xs : List ℕ) (us : List Val) → shadow (each ℕ (UInt w32).own_val (map (λ v. v) xs) us) → (k : ℕ) → k < length xs
    → get_or xs k 0 < 2 ^ 32
words_below xs us s = each_below xs us (subst (λ (l : List ℕ). shadow (each ℕ (UInt w32).own_val l us)) (same_map xs) s)
