-- What holds of every member of a list. Assumes nothing.
use mathlib.Core.Path.{subst, sym}
use mathlib.Core.List.Memᴰ
use mathlib.Core.List.{List, [], ◌∷◌, ◌++◌, map, Memᴰ}
use mathlib.Core.Logic.{⊎_elim}

abbrev pub All : {A : Type 0} → (A → Type 0) → List A → Type 0
All P [] = Unit {0}
All P (x ∷ xs) = P x × All P xs

module _ {A : Type 0} (P : A → Type 0) where
  pub all_append : (xs ys : List A) → All P xs → All P ys → All P (xs ++ ys)
  all_append [] ys a b = b
  all_append (x ∷ xs) ys a b = (a.0, all_append xs ys a.1 b)

  pub all_of_map : {B : Type 0} (f : B → A) (xs : List B) → All (λ x. P (f x)) xs → All P (map f xs)
  all_of_map f [] a = tt
  all_of_map f (x ∷ xs) a = (a.0, all_of_map f xs a.1)

  pub all_in : (xs : List A) (x : A) → All P xs → Memᴰ x xs → P x
  all_in [] x a m = absurd (Memᴰ.not-nil m)
  all_in (y ∷ ys) x a m = ⊎_elim (λ e. subst P (sym e) a.0) (λ r. all_in ys x a.1 r) (Memᴰ.cases_cons m)

  pub all_of : (xs : List A) → ((x : A) → P x) → All P xs
  all_of [] h = tt
  all_of (x ∷ xs) h = (h x, all_of xs h)

-- what follows from it at each
pub all_turned : {A : Type 0} (P Q : A → Type 0) (xs : List A) → ((x : A) → P x → Q x) → All P xs → All Q xs
all_turned P Q [] h a = tt
all_turned P Q (x ∷ xs) h a = (h x a.0, all_turned P Q xs h a.1)
