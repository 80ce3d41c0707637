-- A table holds just the keys that were entered since it was laid out, each once, whatever their order. Why: from a key's own slot to the entry that holds it
-- every entry is used. It holds where none is, and entering keeps it, since a key goes to the first unused entry from its own slot on, and used entries stay
-- used. Assumes nothing.
use Rattle.std.proofs.Common.{◌≡◌, ℕ, ◌+◌, ◌*◌, ◌<◌, ◌≤◌, Bool, true, false, not, T, eqb, ◌⊎◌, ◌↔◌, List, [], ◌∷◌, length, sym, refl, ◌∙◌, subst, inl, inr, ⊎_elim, arith, eqb-true}
use native.Mathlib.Decide.{dec_lt}
use mathlib.Core.List.Memᴰ
use mathlib.Core.List.{Memᴰ}
use borrow.Author.Tests.{eqb-false, not-true, not-false}
use Rattle.counts.specs.Counts.{some, first, tally}
use Rattle.counts.proofs.Laws.{every_true, some_true, some_false, some_at, first_before, first_at}
use Rattle.counts.proofs.Tally.{tally_none, tally_more, tally_every}
use Rattle.seen.specs.Table.{words_per_entry, entries_in, is_used, holds, slot_at, laid_out, is_seen, is_full, free_slot, entered}
use Rattle.seen.specs.Kept.{IsKey, Kept, laid, more}
use Rattle.seen.proofs.Slots.{slot_below, slot_every, slot_once}
use Rattle.seen.proofs.Scan.{entries_room, row_inside}
use Rattle.seen.proofs.Entries.{laid_entries, entered_entries, held_used, laid_unused}
use Rattle.seen.proofs.Entries.{put_used, put_holds, put_holds_only, put_used_other, put_holds_other}

-- ---- tests

pub clash : {b : Bool} → b ≡ true → b ≡ false → ⊥
clash p q = subst T (sym p ∙ q) tt

pub is_not : (b : Bool) → (b ≡ true → ⊥) → b ≡ false
is_not true n = absurd (n refl)
is_not false n = refl

same : (a b : ℕ) → (a ≡ b) ⊎ (a ≡ b → ⊥)
same a b = go (eqb a b) refl
  where
    go : (t : Bool) → eqb a b ≡ t → (a ≡ b) ⊎ (a ≡ b → ⊥)
    go true e = inl (eqb-true _ _ e)
    go false e = inr (eqb-false _ _ e)

-- ---- what a table of n entries holds

pub record Holding (n : ℕ) (keys : List (List ℕ)) (table : List ℕ) : Type 0 where
  -- every entry from a key's own slot to the one that holds it is used
  pub reach : (key : List ℕ) → IsKey key → (i : ℕ) → i < n → holds table key (slot_at n key i) ≡ true → (k : ℕ) → k < i
      → is_used table (slot_at n key k) ≡ true
  pub seen : (key : List ℕ) → IsKey key → some n (holds table key) ≡ true ↔ Memᴰ key keys
  pub count : tally n (is_used table) ≡ length keys

-- ---- one that is laid out holds nothing

module _ (table : List ℕ) where
  laid_holds_none : (key : List ℕ) → IsKey key → (j : ℕ) → j < entries_in table → holds (laid_out table) key j ≡ false
  laid_holds_none key isk j l = is_not _ (λ h. clash (held_used (laid_out table) key j isk h) (laid_unused table j l))

  laid_holding : Holding (entries_in table) [] (laid_out table)
  laid_holding = record {
    reach = λ key isk i l h k b. absurd (clash h (laid_holds_none key isk _ (slot_below _ key i (omega arith))));
    seen = λ key isk. (
      (λ e. absurd (clash e (some_false _ _ (laid_holds_none key isk)))),
      (λ m. absurd (Memᴰ.not-nil m)),
    );
    count = tally_none _ _ (laid_unused table);
  }

-- ---- the first unused entry, where there is one

module _ (table key : List ℕ) (room : is_full table ≡ false) where
  abbrev unused_at : ℕ → Bool
  unused_at i = not (is_used table (slot_at (entries_in table) key i))

  abbrev free_at : ℕ
  free_at = first (entries_in table) unused_at

  pub free_found : free_at < entries_in table
  unfolding is_full
  free_found = go (dec_lt free_at (entries_in table))
    where
      used : entries_in table ≤ free_at → (j : ℕ) → j < entries_in table → is_used table j ≡ true
      used h j l =
          let s = slot_every (entries_in table) key j l in
          rw (← s.2) (not-false _ (first_before (entries_in table) unused_at s.0 (omega (arith, s.1))))

      go : Dec (free_at < entries_in table) → free_at < entries_in table
      go (yes h) = h
      go (no h) = absurd (clash (every_true (entries_in table) (is_used table) (used (omega arith))) room)

  free_is : free_slot table key ≡ slot_at (entries_in table) key free_at
  unfolding free_slot
  free_is = refl

  pub free_below : free_slot table key < entries_in table
  free_below = rw free_is (slot_below (entries_in table) key free_at (let l = free_found in omega arith))

  pub free_unused : is_used table (free_slot table key) ≡ false
  free_unused = rw free_is (not-true _ (first_at (entries_in table) unused_at free_found))

  free_before : (k : ℕ) → k < free_at → is_used table (slot_at (entries_in table) key k) ≡ true
  free_before k l = not-false _ (first_before (entries_in table) unused_at k l)

-- ---- a key that is entered

module _ (table key : List ℕ) (isk : IsKey key) (room : is_full table ≡ false) where
  abbrev own : ℕ
  own = free_slot table key

  inside : (own + 1) * words_per_entry ≤ length table
  inside = row_inside (entries_in table) own table (entries_room table) (free_below table key room)

  own_used : is_used (entered table key) own ≡ true
  unfolding entered
  own_used = put_used table own key inside isk

  own_holds : holds (entered table key) key own ≡ true
  unfolding entered
  own_holds = put_holds table own key inside

  own_holds_only : (other : List ℕ) → IsKey other → holds (entered table key) other own ≡ true → other ≡ key
  unfolding entered
  own_holds_only other iso h = put_holds_only table own key inside other isk iso h

  used_other : (i : ℕ) → (i ≡ own → ⊥) → is_used (entered table key) i ≡ is_used table i
  unfolding entered
  used_other i d = put_used_other table own key inside i d

  holds_other : (other : List ℕ) (i : ℕ) → (i ≡ own → ⊥) → holds (entered table key) other i ≡ holds table other i
  unfolding entered
  holds_other other i d = put_holds_other table own key inside other i d

  -- used entries stay used
  used_still : (i : ℕ) → is_used table i ≡ true → is_used (entered table key) i ≡ true
  used_still i u = ⊎_elim (λ e. rw e own_used) (λ d. used_other i d ∙ u) (same i own)

  -- from its own slot to the entry where it is put
  own_reach : (i : ℕ) → i < entries_in table → slot_at (entries_in table) key i ≡ own → (k : ℕ) → k < i
      → is_used (entered table key) (slot_at (entries_in table) key k) ≡ true
  own_reach i l e k b =
      let m : i ≡ free_at table key room
      = slot_once (entries_in table) key i (free_at table key room) l (free_found table key room) (e ∙ free_is table key room) in
      used_still _ (free_before table key room k (omega arith))

  module _ (keys : List (List ℕ)) (w : Holding (entries_in table) keys table) where
    reach_on : (other : List ℕ) → IsKey other → (i : ℕ) → i < entries_in table → holds (entered table key) other (slot_at (entries_in table) other i) ≡ true
        → (k : ℕ) → k < i → is_used (entered table key) (slot_at (entries_in table) other k) ≡ true
    reach_on other iso i l h k b = ⊎_elim at_own elsewhere (same (slot_at (entries_in table) other i) own)
      where
        at_own : slot_at (entries_in table) other i ≡ own → is_used (entered table key) (slot_at (entries_in table) other k) ≡ true
        at_own e =
            let s : other ≡ key = own_holds_only other iso (rw e at h) in
            rw s (own_reach i l (rw s at e) k b)

        elsewhere : (slot_at (entries_in table) other i ≡ own → ⊥) → is_used (entered table key) (slot_at (entries_in table) other k) ≡ true
        elsewhere d = used_still _ (w.reach other iso i l (sym (holds_other other _ d) ∙ h) k b)

    seen_then : (other : List ℕ) → IsKey other → some (entries_in table) (holds (entered table key) other) ≡ true → Memᴰ other (key ∷ keys)
    seen_then other iso e = go (some_at _ _ e)
      where
        go : (i : ℕ) × (i < entries_in table) × (holds (entered table key) other i ≡ true) → Memᴰ other (key ∷ keys)
        go (i, l, h) =
            ⊎_elim (λ s. Memᴰ.head (own_holds_only other iso (rw s at h)))
            (λ d. Memᴰ.tail ((w.seen other iso).0 (some_true _ _ i l (sym (holds_other other i d) ∙ h))))
            (same i own)

    seen_still : (other : List ℕ) → IsKey other → Memᴰ other (key ∷ keys) → some (entries_in table) (holds (entered table key) other) ≡ true
    seen_still other iso m = ⊎_elim is_own is_older (Memᴰ.cases_cons m)
      where
        is_own : other ≡ key → some (entries_in table) (holds (entered table key) other) ≡ true
        is_own e = rw e (some_true _ _ own (free_below table key room) own_holds)

        is_older : Memᴰ other keys → some (entries_in table) (holds (entered table key) other) ≡ true
        is_older o = go (some_at _ _ ((w.seen other iso).1 o))
          where
            go : (i : ℕ) × (i < entries_in table) × (holds table other i ≡ true) → some (entries_in table) (holds (entered table key) other) ≡ true
            go (i, l, h) =
                ⊎_elim (λ s. absurd (clash (held_used table other own iso (rw s at h)) (free_unused table key room)))
                (λ d. some_true _ _ i l (holds_other other i d ∙ h)) (same i own)

    entered_holding : Holding (entries_in table) (key ∷ keys) (entered table key)
    entered_holding = record {
      reach = reach_on;
      seen = λ other iso. (seen_then other iso, seen_still other iso);
      count =
          let t : tally (entries_in table) (is_used (entered table key)) ≡ tally (entries_in table) (is_used table) + 1
          = tally_more (entries_in table) (is_used table) (is_used (entered table key)) own
          (free_below table key room) (free_unused table key room) own_used (λ k l d. used_other k d) in
          let c = w.count in
          omega arith;
    }

-- ---- so it is after whatever was entered

pub holding : {keys : List (List ℕ)} {table : List ℕ} → Kept keys table → Holding (entries_in table) keys table
holding (laid table) = rw (laid_entries table) (laid_holding table)
holding (more keys table key k isk unseen room) = rw (entered_entries table key) (entered_holding table key isk room keys (holding k))

-- ---- what the search relies on

-- a key is seen just where it was entered
pub kept_seen : {keys : List (List ℕ)} {table key : List ℕ} → Kept keys table → IsKey key → is_seen table key ≡ true ↔ Memᴰ key keys
unfolding is_seen
kept_seen {keys} {table} {key} k isk = (holding k).seen key isk

-- the table is full just where there are as many keys as entries
pub kept_full : {keys : List (List ℕ)} {table : List ℕ} → Kept keys table → is_full table ≡ true ↔ (entries_in table ≤ length keys)
unfolding is_full
kept_full {keys} {table} k =
    let t = tally_every (entries_in table) (is_used table) in
    ((λ e. rw (holding k).count at (t.0 e)), (λ l. t.1 (rw (holding k).count l)))
