-- What holds of every number below n, of some, of how many, which is the first, and the list of what a function gives at each; and what it says to be the
-- lowest at fault, or the least of which something holds. Definitions only. Assumes nothing.
use Rattle.std.specs.Prelude.{ℕ, zero, suc, ◌≤◌, ◌<◌, ◌≡◌, Bool, true, false, ◌&&◌, ◌||◌, cond, List, [], ◌∷◌, ◌++◌, ◌↔◌, ltb}
use Rattle.std.specs.Prelude.{Option, Some, None}

unfoldable pub every : ℕ → (ℕ → Bool) → Bool
every zero f = true
every (suc n) f = every n f && f n

unfoldable pub some : ℕ → (ℕ → Bool) → Bool
some zero f = false
some (suc n) f = some n f || f n

-- the least number below n at which f is true, and n where there is none
unfoldable pub first : ℕ → (ℕ → Bool) → ℕ
first zero f = 0
first (suc n) f = cond (ltb (first n f) n) (first n f) (cond (f n) n (suc n))

-- the one that was found, or none where the search came to the end
abbrev pub below : ℕ → ℕ → Option ℕ
below n k = cond (ltb k n) (Some k) None

-- the number of those below n at which f is true
unfoldable pub tally : ℕ → (ℕ → Bool) → ℕ
tally zero f = 0
tally (suc n) f = cond (f n) (suc (tally n f)) (tally n f)

-- f 0, f 1 and so on, n of them
unfoldable pub table {ℓ} : {A : Type ℓ} → ℕ → (ℕ → A) → List A
table zero f = []
table (suc n) f = table n f ++ (f n ∷ [])

-- ---- the same in words

-- the lowest at fault: it is one of the n, everything before it is right, and it is not
pub record Lowest (n : ℕ) (R : ℕ → Type 0) (m : ℕ) : Type 0 where
  pub listed : m < n
  pub before : (k : ℕ) → k < m → R k
  pub fault : R m → ⊥

-- the least that is so: it is one of the n, nothing before it is so, and it is
pub record Least (n : ℕ) (R : ℕ → Type 0) (m : ℕ) : Type 0 where
  pub listed : m < n
  pub before : (k : ℕ) → k < m → R k → ⊥
  pub here : R m

-- what an answer tells that names the lowest at fault, and n where there is none
pub record TellsLowest (n : ℕ) (R : ℕ → Type 0) (answer : ℕ) : Type 0 where
  pub lowest : answer < n → Lowest n R answer
  pub is_lowest : (m : ℕ) → Lowest n R m → answer ≡ m
  pub none : n ≤ answer ↔ ((k : ℕ) → k < n → R k)
