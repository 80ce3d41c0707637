-- How the code comes to the words of a queue with one place put in or taken out: its own word, and the path above it, up to a word that stays what it was.
-- What the private functions say of each other; no caller of `queue` meets any of it. proofs/Change says that it gives `queue_of`. Definitions only. Assumes
-- nothing.
use Rattle.std.specs.Prelude.{ℕ, zero, suc, ◌+◌, ◌*◌, ◌/◌, ◌≤◌, ◌<◌, ◌≡◌, Bool, cond, List, ◌⊎◌, eqb, length, get_or, set, Float}
use Rattle.queue.specs.Queue.{none, better, own_of}

-- word k as the better of its two
unfoldable pub repaired : (ℕ → Float) → ℕ → ℕ → List ℕ → List ℕ
repaired f n k t = set t k (better f n (get_or t (2 * k) 0) (get_or t (2 * k + 1) 0))

-- whether the repair leaves word k what it was
abbrev pub stays : (ℕ → Float) → ℕ → ℕ → List ℕ → Bool
stays f n k t = eqb (get_or (repaired f n k t) k 0) (get_or t k 0)

-- a Tree but for word p: all other words are right
pub record Except (f : ℕ → Float) (n : ℕ) (q : ℕ → Bool) (t : List ℕ) (p : ℕ) : Type 0 where
  pub size : 2 * n ≤ length t
  pub unused : 0 < n → get_or t 0 0 ≡ none
  pub own : (i : ℕ) → i < n → get_or t (n + i) 0 ≡ own_of i (q i)
  pub inner : (k : ℕ) → 0 < k → k < n → (k ≡ p) ⊎ (get_or t k 0 ≡ better f n (get_or t (2 * k) 0) (get_or t (2 * k + 1) 0))

-- word k repaired, then the one above it, up to word 1 or to a word that stays what it was: d of them at most
unfoldable pub climbed : (ℕ → Float) → ℕ → ℕ → ℕ → List ℕ → List ℕ
climbed f n zero k t = t
climbed f n (suc d) k t =
    let after = repaired f n k t in
    let above = climbed f n d (k / 2) after in
    cond (eqb k 0) t (cond (stays f n k t) after above)

-- place i's own word says whether it is queued, and the path above it is repaired
unfoldable pub path_repaired : (ℕ → Float) → ℕ → ℕ → Bool → List ℕ → List ℕ
path_repaired f n i b t = climbed f n ((n + i) / 2) ((n + i) / 2) (set t (n + i) (own_of i b))
