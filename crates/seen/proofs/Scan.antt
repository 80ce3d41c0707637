-- Looking a key up, one entry after the other: what it has passed, and where it ends. Assumes nothing.
use Rattle.std.proofs.Common.{◌≡◌, ℕ, ◌+◌, ◌*◌, ◌<◌, ◌≤◌, Bool, true, false, List, length, sym, refl, add-one, arith, below_none, below_more, le-ltb, lt-ltb}
use mathlib.Core.Bool.{beq}
use Rattle.counts.specs.Counts.{first}
use Rattle.counts.proofs.Laws.{first_is}
use Rattle.places.specs.Layout.{most_places}
use Rattle.seen.specs.declared.Spot.TheVariants.{Held, Free, Nowhere}
use Rattle.seen.specs.Table.{words_per_entry, entries_in, is_used, holds, first_slot, next, slot_at, stops, spot_at, found_in}
use Rattle.seen.proofs.Slots.{slot_below}

-- ---- a test for false

pub is_false : (b : Bool) → beq b false ≡ true → b ≡ false
is_false true h = sym h
is_false false h = refl

pub is_true : (b : Bool) → beq b false ≡ false → b ≡ true
is_true true h = refl
is_true false h = sym h

-- ---- the entries lie in the table

pub entries_room : (table : List ℕ) → entries_in table * words_per_entry ≤ length table
unfolding entries_in
entries_room table = omega arith

pub entries_few : (table : List ℕ) → entries_in table ≤ most_places
unfolding entries_in
entries_few table = omega arith

pub row_inside : (n j : ℕ) (table : List ℕ) → n * words_per_entry ≤ length table → j < n → (j + 1) * words_per_entry ≤ length table
row_inside n j table r l = omega arith

-- ---- what was passed

-- after i others, of n entries: it stands at j, and it has stopped at none of those before
pub record Passed (table key : List ℕ) (n j i : ℕ) : Type 0 where
  pub some : 0 < n
  pub room : n * words_per_entry ≤ length table
  pub within : i ≤ n
  pub at : j ≡ slot_at n key i
  pub before : (k : ℕ) → k < i → stops table key (slot_at n key k) ≡ false

module _ (table key : List ℕ) (n : ℕ) where
  pub passed_none : 0 < n → n * words_per_entry ≤ length table → Passed table key n (first_slot n key) 0
  unfolding slot_at
  passed_none l r = record { some = l; room = r; within = omega arith; at = refl; before = below_none _ }

  -- nothing is looked at where there is no entry
  pub found_nowhere : n ≡ 0 → Nowhere ≡ found_in table key n
  unfolding spot_at found_in
  found_nowhere e = rw (e, le-ltb (first 0 (λ i. stops table key (slot_at 0 key i))) 0 (omega arith))

  module _ (j i : ℕ) (p : Passed table key n j i) where
    pub passed_below : j < n
    passed_below = rw p.at (slot_below n key i p.some)

    pub passed_inside : (j + 1) * words_per_entry ≤ length table
    passed_inside = row_inside n j table p.room passed_below

    -- where it ends
    ended : stops table key j ≡ true → first n (λ i. stops table key (slot_at n key i)) ≡ i
    ended e = first_is n (λ i. stops table key (slot_at n key i)) i p.within p.before (λ l. rw p.at at e)

    module _ (l : i < n) where
      pub passed_free : is_used table j ≡ false → Free j ≡ found_in table key n
      unfolding stops spot_at found_in
      passed_free e = rw (ended (rw e), lt-ltb i n l, ← p.at, e)

      pub passed_held : is_used table j ≡ true → holds table key j ≡ true → Held ≡ found_in table key n
      unfolding stops spot_at found_in
      passed_held e h = rw (ended (rw (e, h)), lt-ltb i n l, ← p.at, e)

      pub passed_more : is_used table j ≡ true → holds table key j ≡ false → Passed table key n (next n j) (i + 1)
      unfolding stops slot_at
      passed_more e h = record {
        some = p.some;
        room = p.room;
        within = omega arith;
        at = rw (add-one, ← p.at);
        before = below_more (λ k. stops table key (slot_at n key k) ≡ false) i p.before (rw (← p.at, e, h));
      }

    pub passed_all : n ≤ i → Nowhere ≡ found_in table key n
    unfolding spot_at found_in
    passed_all l =
        let e : first n (λ i. stops table key (slot_at n key i)) ≡ i
        = first_is n (λ i. stops table key (slot_at n key i)) i p.within p.before (λ h. absurd (omega arith)) in
        rw (e, le-ltb i n l)
