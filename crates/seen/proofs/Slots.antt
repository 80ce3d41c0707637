-- Where a key is looked for: each slot is one of the n entries, from the key's own on and behind the last the first, so that n of them come to every entry,
-- and to each once; and the key's own is given by the plain sum of its words. Assumes nothing.
use Rattle.std.proofs.Common.{◌≡◌, ℕ, zero, suc, ◌+◌, ◌-◌, ◌%◌, ◌^◌, ◌<◌, ◌≤◌, Bool, true, false, cond, eqb, ◌⊎◌, List, get_or, refl, ap, inl, inr, mod-lt, arith, eqb-true}
use native.Mathlib.Nat.{mod-add-mod}
use native.Mathlib.Decide.{dec_le}
use borrow.Author.Tests.{eqb-false}
use Rattle.seen.specs.Table.{words_per_entry, sum_to, plain_sum, first_slot, next, slot_at}

-- ---- the sum

sum_wraps : (key : List ℕ) (k : ℕ) → sum_to key k ≡ plain_sum key k % 2 ^ 32
unfolding sum_to plain_sum
sum_wraps key zero = refl
sum_wraps key (suc k) = rw (sum_wraps key k) (mod-add-mod (plain_sum key k) (2 ^ 32) (get_or key k 0))

-- wrapping at each word or once is the same
pub first_in_sum : (key : List ℕ) → sum_to key words_per_entry ≡ plain_sum key words_per_entry % 2 ^ 32
first_in_sum key = sum_wraps key words_per_entry

sum_same : (a b : List ℕ) (m : ℕ) → ((k : ℕ) → k < m → get_or a k 0 ≡ get_or b k 0) → sum_to a m ≡ sum_to b m
unfolding sum_to
sum_same a b zero h = refl
sum_same a b (suc m) h = rw (sum_same a b m (λ k l. h k (omega arith)), h m (omega arith))

-- ---- a slot is an entry

pub first_slot_below : (n : ℕ) (key : List ℕ) → 0 < n → first_slot n key < n
unfolding first_slot
first_slot_below n key l = mod-lt _ l

-- the next one is one on, or the first behind the last
next_is : (n j : ℕ) → j < n → ((j + 1 < n) × (next n j ≡ j + 1)) ⊎ ((j + 1 ≡ n) × (next n j ≡ 0))
unfolding next
next_is n j l = go (eqb (j + 1) n) refl
  where
    go : (b : Bool) → eqb (j + 1) n ≡ b → ((j + 1 < n) × (cond b 0 (j + 1) ≡ j + 1)) ⊎ ((j + 1 ≡ n) × (cond b 0 (j + 1) ≡ 0))
    go true e = inr (eqb-true _ _ e, refl)
    go false e = inl (let d : j + 1 ≡ n → ⊥ = eqb-false _ _ e in omega arith, refl)

pub slot_below : (n : ℕ) (key : List ℕ) (i : ℕ) → 0 < n → slot_at n key i < n
unfolding slot_at
slot_below n key zero l = first_slot_below n key l
slot_below n key (suc i) l = go (next_is n (slot_at n key i) (slot_below n key i l))
  where
    go : ((slot_at n key i + 1 < n) × (next n (slot_at n key i) ≡ slot_at n key i + 1)) ⊎ ((slot_at n key i + 1 ≡ n) × (next n (slot_at n key i) ≡ 0))
        → next n (slot_at n key i) < n
    go (inl (h, e)) = omega arith
    go (inr (h, e)) = omega arith

-- ---- which entry it is

-- i on from s, or that less n
abbrev Turned : ℕ → ℕ → ℕ → ℕ → Type 0
Turned n s i j = ((s + i < n) × (j ≡ s + i)) ⊎ ((n ≤ s + i) × (j + n ≡ s + i))

turned_on : (n s i j : ℕ) → s < n → suc i < n → j < n → Turned n s i j → Turned n s (suc i) (next n j)
turned_on n s i j a b d t = go t (next_is n j d)
  where
    go : Turned n s i j → ((j + 1 < n) × (next n j ≡ j + 1)) ⊎ ((j + 1 ≡ n) × (next n j ≡ 0)) → Turned n s (suc i) (next n j)
    go (inl (h, e)) (inl (g, f)) = inl (omega arith, omega arith)
    go (inl (h, e)) (inr (g, f)) = inr (omega arith, omega arith)
    go (inr (h, e)) (inl (g, f)) = inr (omega arith, omega arith)
    go (inr (h, e)) (inr (g, f)) = absurd (omega arith)

pub slot_is : (n : ℕ) (key : List ℕ) (i : ℕ) → i < n → Turned n (first_slot n key) i (slot_at n key i)
unfolding slot_at
slot_is n key zero l = let b : first_slot n key < n = first_slot_below n key l in inl (omega arith, omega arith)
slot_is n key (suc i) l =
    turned_on n (first_slot n key) i (slot_at n key i) (first_slot_below n key (omega arith)) l (slot_below n key i (omega arith))
    (slot_is n key i (omega arith))

-- every entry is come to
pub slot_every : (n : ℕ) (key : List ℕ) (j : ℕ) → j < n → (i : ℕ) × (i < n) × (slot_at n key i ≡ j)
slot_every n key j l = go (dec_le (first_slot n key) j) (first_slot_below n key (omega arith))
  where
    on : (i : ℕ) → i < n → Turned n (first_slot n key) i j → slot_at n key i ≡ j
    on i h t = same t (slot_is n key i h)
      where
        same : Turned n (first_slot n key) i j → Turned n (first_slot n key) i (slot_at n key i) → slot_at n key i ≡ j
        same (inl (a, b)) (inl (d, e)) = omega arith
        same (inl (a, b)) (inr (d, e)) = absurd (omega arith)
        same (inr (a, b)) (inl (d, e)) = absurd (omega arith)
        same (inr (a, b)) (inr (d, e)) = omega arith

    go : Dec (first_slot n key ≤ j) → first_slot n key < n → (i : ℕ) × (i < n) × (slot_at n key i ≡ j)
    go (yes h) b = let i = j - first_slot n key in let m : i < n = omega arith in (i, m, on i m (inl (omega arith, omega arith)))
    go (no h) b = let i = j + n - first_slot n key in let m : i < n = omega arith in (i, m, on i m (inr (omega arith, omega arith)))

-- and to each once
pub slot_once : (n : ℕ) (key : List ℕ) (i k : ℕ) → i < n → k < n → slot_at n key i ≡ slot_at n key k → i ≡ k
slot_once n key i k l m e = go (slot_is n key i l) (slot_is n key k m)
  where
    go : Turned n (first_slot n key) i (slot_at n key i) → Turned n (first_slot n key) k (slot_at n key k) → i ≡ k
    go (inl (a, b)) (inl (d, f)) = omega arith
    go (inl (a, b)) (inr (d, f)) = absurd (omega arith)
    go (inr (a, b)) (inl (d, f)) = absurd (omega arith)
    go (inr (a, b)) (inr (d, f)) = omega arith

-- only the ten words count
pub slot_same : (n : ℕ) (a b : List ℕ) → ((k : ℕ) → k < words_per_entry → get_or a k 0 ≡ get_or b k 0) → (i : ℕ) → slot_at n a i ≡ slot_at n b i
unfolding first_slot slot_at
slot_same n a b h zero = ap (λ (s : ℕ). s % n) (sum_same a b words_per_entry h)
slot_same n a b h (suc i) = ap (next n) (slot_same n a b h i)
