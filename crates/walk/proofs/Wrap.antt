-- Edge numbers that run past the last one, and the edges after the entry edge by their places. Rests on specs/Round. Assumes nothing.
use Prim.Native.Nat.{ℕ, zero, suc, ◌+◌, ◌-◌, ◌<◌, ◌≤◌}
use mathlib.Core.Path.{◌≡◌, refl, sym, ap, ◌∙◌}
use mathlib.Core.Bool.{Bool, true, false}
use mathlib.Core.Logic.{◌⊎◌, inl, inr}
use native.Mathlib.Omega.{arith}
use borrow.Author.Tests.{ltb-true, ltb-false, lt-ltb, le-ltb}
use lib.Dec.{ltb}
use lib.ListN.{length, get_or}
use Rattle.walk.specs.Round.{wrapped, after_entry, edges_from}

-- ---- wrapped

module _ (n i : ℕ) where
  pub wrapped_below : i < n → wrapped n i ≡ i
  unfolding wrapped
  wrapped_below h = rw (lt-ltb i n h)

  pub wrapped_past : n ≤ i → wrapped n i ≡ i - n
  unfolding wrapped
  wrapped_past h = rw (le-ltb i n h)

  pub wrapped_cases : ((i < n) × (wrapped n i ≡ i)) ⊎ ((n ≤ i) × (wrapped n i ≡ i - n))
  wrapped_cases = go (ltb i n) refl
    where
      go : (t : Bool) → ltb i n ≡ t → ((i < n) × (wrapped n i ≡ i)) ⊎ ((n ≤ i) × (wrapped n i ≡ i - n))
      go true e = inl (ltb-true i n e, wrapped_below (ltb-true i n e))
      go false e = inr (ltb-false i n e, wrapped_past (ltb-false i n e))

-- ---- after the entry edge: up to the last edge, and from the first on

module _ (n entry k : ℕ) where
  pub up_to_the_last : k < n - entry - 1 → entry + 1 + k ≡ after_entry n entry k
  unfolding after_entry
  up_to_the_last h = sym (wrapped_below n (entry + 1 + k) (omega arith))

  pub from_the_first : entry < n → n - entry - 1 ≤ k → k - (n - entry - 1) ≡ after_entry n entry k
  unfolding after_entry
  from_the_first h l =
      let e : k - (n - entry - 1) ≡ entry + 1 + k - n = omega arith in
      e ∙ sym (wrapped_past n (entry + 1 + k) (omega arith))

-- ---- the edges by their places

module _ (n entry : ℕ) where
  pub length_edges : (i k : ℕ) → length (edges_from n entry i k) ≡ k
  unfolding edges_from
  length_edges i zero = refl
  length_edges i (suc k) = ap suc (length_edges (suc i) k)

  pub edge_at : (i k j : ℕ) → j < k → get_or (edges_from n entry i k) j 0 ≡ after_entry n entry (i + j)
  unfolding edges_from
  edge_at i zero j h = absurd (omega arith)
  edge_at i (suc k) zero h = ap (after_entry n entry) (omega arith)
  edge_at i (suc k) (suc j) h = edge_at (suc i) k j (omega arith) ∙ ap (after_entry n entry) (omega arith)
