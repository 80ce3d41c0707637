-- What holds of every member of a table. Assumes nothing.
use Prim.Native.Nat.{ℕ, zero, suc}
use mathlib.Core.List.{[], ◌∷◌}
use Rattle.counts.specs.Counts.{table}
use Rattle.walk.proofs.All.{All, all_append}

pub all_table : {A : Type 0} (P : A → Type 0) (n : ℕ) (f : ℕ → A) → ((i : ℕ) → P (f i)) → All P (table n f)
unfolding table
all_table P zero f h = tt
all_table P (suc n) f h = all_append P (table n f) (f n ∷ []) (all_table P n f h) (h n, tt)
