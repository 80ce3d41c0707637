-- The test of the slots behind the corners: a loop that goes through them, and each kind by the record's slots. Assumes nothing.
use Prim.Native.Nat.{ℕ, ◌+◌, ◌-◌, ◌≤◌, ◌<◌}
use native.Mathlib.Nat.{zero-add}
use native.Mathlib.Omega.{arith}
use native.Mathlib.Decide.{dec_lt}
use mathlib.Core.Path.{◌≡◌, refl, sym, subst}
use mathlib.Core.Bool.{true, false}
use mathlib.Core.List.{List, ◌++◌}
use borrow.Author.Tests.{eq-eqb, ne_eqb}
use lib.Dec.{eqb}
use lib.ListN.{length, get_or}
use Rattle.counts.specs.Counts.{every}
use Rattle.counts.proofs.Laws.{every_true, every_false, every_same}
use Rattle.stored.specs.Stored.{Polygon, unused, slot_at, polygon_at, corner, neighbour}
use Rattle.stored.proofs.Records.{neighbour_read, corner_slot, neighbour_slot}
use Rattle.faults.specs.Tests.{rest_unused}

-- those from n on and before i are unused
pub record Unused (slot : ℕ → ℕ) (n i : ℕ) : Type 0 where
  pub so : (k : ℕ) → n ≤ k → k < i → eqb (slot k) unused ≡ true

pub unused_none : {slot : ℕ → ℕ} {n : ℕ} → Unused slot n n
unused_none = record { so = λ k low high. absurd (omega arith) }

pub unused_more : {slot : ℕ → ℕ} {n i : ℕ} → Unused slot n i → {x : ℕ} → x ≡ slot i → x ≡ unused → Unused slot n (i + 1)
unused_more {slot} {n} {i} h read e = record { so = λ k low high. go k low high (dec_lt k i) }
  where
    go : (k : ℕ) → n ≤ k → k < i + 1 → Dec (k < i) → eqb (slot k) unused ≡ true
    go k low high (yes l) = h.so k low l
    go k low high (no l) = let same : i ≡ k = omega (arith, high, l) in subst (λ (v : ℕ). eqb (slot v) unused ≡ true) same (rw (← read) (eq-eqb _ _ e))

pub unused_all : {slot : ℕ → ℕ} {slots n i : ℕ} → Unused slot n i → slots ≤ i → true ≡ rest_unused slot slots n
unfolding rest_unused
unused_all {slot} {slots} {n} {i} h l =
    sym (every_true (slots - n) (λ k. eqb (slot (n + k)) unused) (λ k m. h.so (n + k) (omega arith) (omega (arith, m, l))))

pub unused_fails : (slot : ℕ → ℕ) {slots n i : ℕ} → n ≤ i → i < slots → {x : ℕ} → x ≡ slot i → (x ≡ unused → ⊥)
    → false ≡ rest_unused slot slots n
unfolding rest_unused
unused_fails slot {slots} {n} {i} low high read e =
    let here : i ≡ n + (i - n) = omega (arith, low) in
    sym (every_false (slots - n) (λ k. eqb (slot (n + k)) unused) (i - n) (omega (arith, low, high))
    (subst (λ (v : ℕ). eqb (slot v) unused ≡ false) here (rw (← read) (ne_eqb _ _ e))))

-- by the number of slots that was read off a plan
pub rest_by_lem : {read s : ℕ} (slot : ℕ → ℕ) (n : ℕ) → read ≡ s → every (read - n) (λ k. eqb (slot (n + k)) unused) ≡ rest_unused slot s n
unfolding rest_unused
rest_by_lem {read} slot n e = subst (λ (m : ℕ). every (read - n) (λ k. eqb (slot (n + k)) unused) ≡ every (m - n) (λ k. eqb (slot (n + k)) unused)) e refl

-- by the words of a record
pub rest_neighbours : (s : ℕ) (bytes : List ℕ) (p n : ℕ)
    → rest_unused (neighbour (polygon_at s bytes p)) s n ≡ rest_unused (λ i. slot_at s bytes p (s + i)) s n
unfolding rest_unused
rest_neighbours s bytes p n =
    every_same (s - n) (λ k. eqb (neighbour (polygon_at s bytes p) (n + k)) unused) (λ k. eqb (slot_at s bytes p (s + (n + k))) unused)
    (λ k l. rw (neighbour_read s bytes p (n + k) (omega arith)))

module _ (q : Polygon) where
  pub rest_corners : (n : ℕ) → rest_unused (corner q) (length q.corners) n
      ≡ rest_unused (λ i. get_or (q.corners ++ q.neighbours) (0 + i) unused) (length q.corners) n
  unfolding rest_unused
  rest_corners n =
      every_same (length q.corners - n) (λ k. eqb (corner q (n + k)) unused)
      (λ k. eqb (get_or (q.corners ++ q.neighbours) (0 + (n + k)) unused) unused)
      (λ k l. rw (zero-add (n + k), corner_slot q (n + k) (omega (arith, l))))

  pub rest_neighbours_by : {begin : ℕ} → begin ≡ length q.corners → begin ≡ length q.neighbours → (n : ℕ)
      → rest_unused (neighbour q) (length q.neighbours) n
      ≡ rest_unused (λ i. get_or (q.corners ++ q.neighbours) (begin + i) unused) (length q.corners) n
  unfolding rest_unused
  rest_neighbours_by {begin} e g n =
      rw (← g, ← e)
      (every_same (begin - n) (λ k. eqb (neighbour q (n + k)) unused) (λ k. eqb (get_or (q.corners ++ q.neighbours) (begin + (n + k)) unused) unused)
      (λ k l. rw (e, neighbour_slot q (n + k))))
