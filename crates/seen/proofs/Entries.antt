-- What an entry holds: after a key is stored as an entry, that one is used and holds just this key, and the others are as they were; in a table that is laid
-- out none is used. An entry that holds a key is used. None of it changes how long the table is. Assumes nothing.
use Rattle.std.proofs.Common.{◌≡◌, ℕ, zero, suc, ◌+◌, ◌*◌, ◌<◌, ◌≤◌, true, false, ◌⊎◌, List, length, get_or, set, sym, refl, ◌∙◌, inl, inr, arith, length-set, get_or-set_other, get_or-set_same, ext_get_or, eq-eqb, ne_eqb, eqb-true}
use native.Mathlib.Decide.{dec_lt}
use Rattle.counts.proofs.Laws.{every_true, every_at, every_same}
use Rattle.queue.proofs.Lent.{cleared_length, cleared_word}
use Rattle.seen.specs.Table.{words_per_entry, entered_cell, entries_in, entry_word, is_used, holds, laid_out, stored_to, entry_put, free_slot, entered}
use Rattle.seen.specs.Kept.{IsKey}
use Rattle.seen.proofs.Scan.{entries_room}

-- ---- how long the table is

stored_long : (table : List ℕ) (j : ℕ) (key : List ℕ) (k : ℕ) → length (stored_to table j key k) ≡ length table
unfolding stored_to
stored_long table j key zero = refl
stored_long table j key (suc k) = simp length-set (stored_long table j key k)

pub put_long : (table : List ℕ) (j : ℕ) (key : List ℕ) → length (entry_put table j key) ≡ length table
unfolding entry_put
put_long table j key = stored_long table j key words_per_entry

pub laid_long : (table : List ℕ) → length (laid_out table) ≡ length table
unfolding laid_out
laid_long table = cleared_length (entries_in table * words_per_entry) table (entries_room table)

pub entered_long : (table key : List ℕ) → length (entered table key) ≡ length table
unfolding entered
entered_long table key = put_long table (free_slot table key) key

-- tables as long as each other have as many entries
pub entries_same : (a b : List ℕ) → length a ≡ length b → entries_in a ≡ entries_in b
unfolding entries_in
entries_same a b e = rw e

pub laid_entries : (table : List ℕ) → entries_in (laid_out table) ≡ entries_in table
laid_entries table = entries_same _ _ (laid_long table)

pub put_entries : (table : List ℕ) (j : ℕ) (key : List ℕ) → entries_in (entry_put table j key) ≡ entries_in table
put_entries table j key = entries_same _ _ (put_long table j key)

pub entered_entries : (table key : List ℕ) → entries_in (entered table key) ≡ entries_in table
entered_entries table key = entries_same _ _ (entered_long table key)

-- ---- the words of an entry that is stored

module _ (table : List ℕ) (j : ℕ) (key : List ℕ) (r : (j + 1) * words_per_entry ≤ length table) where
  stored_word : (k m : ℕ) → k ≤ words_per_entry → m < k → get_or (stored_to table j key k) (j * words_per_entry + m) 0 ≡ get_or key m 0
  unfolding stored_to
  stored_word zero m l h = absurd (omega arith)
  stored_word (suc k) m l h = go (dec_lt m k) (stored_word k m (omega arith))
    where
      go : Dec (m < k) → (m < k → get_or (stored_to table j key k) (j * words_per_entry + m) 0 ≡ get_or key m 0)
          → get_or (set (stored_to table j key k) (j * words_per_entry + k) (get_or key k 0)) (j * words_per_entry + m) 0 ≡ get_or key m 0
      go (yes b) s =
          let d : j * words_per_entry + m ≡ j * words_per_entry + k → ⊥ = λ e. omega arith in
          get_or-set_other (stored_to table j key k) (j * words_per_entry + k) (j * words_per_entry + m) (get_or key k 0) 0 d ∙ s b
      go (no b) s =
          let e : m ≡ k = omega arith in
          rw e (get_or-set_same (stored_to table j key k) (j * words_per_entry + k) (get_or key k 0) 0 (rw (stored_long table j key k) (omega arith)))

  stored_other : (k p : ℕ) → (p < j * words_per_entry) ⊎ (j * words_per_entry + k ≤ p) → get_or (stored_to table j key k) p 0 ≡ get_or table p 0
  unfolding stored_to
  stored_other zero p h = refl
  stored_other (suc k) p (inl h) =
      let d : p ≡ j * words_per_entry + k → ⊥ = λ e. omega arith in
      get_or-set_other (stored_to table j key k) (j * words_per_entry + k) p (get_or key k 0) 0 d ∙ stored_other k p (inl h)
  stored_other (suc k) p (inr h) =
      let d : p ≡ j * words_per_entry + k → ⊥ = λ e. omega arith in
      get_or-set_other (stored_to table j key k) (j * words_per_entry + k) p (get_or key k 0) 0 d ∙ stored_other k p (inr (omega arith))

  put_word : (m : ℕ) → m < words_per_entry → entry_word (entry_put table j key) j m ≡ get_or key m 0
  unfolding entry_word entry_put
  put_word m l = stored_word words_per_entry m (omega arith) l

  put_other : (i m : ℕ) → (i ≡ j → ⊥) → m < words_per_entry → entry_word (entry_put table j key) i m ≡ entry_word table i m
  unfolding entry_word entry_put
  put_other i m d l = stored_other words_per_entry (i * words_per_entry + m) (go (dec_lt i j))
    where
      go : Dec (i < j) → (i * words_per_entry + m < j * words_per_entry) ⊎ (j * words_per_entry + words_per_entry ≤ i * words_per_entry + m)
      go (yes h) = inl (omega arith)
      go (no h) = inr (omega arith)

  -- it is used, and it holds the key
  pub put_used : IsKey key → is_used (entry_put table j key) j ≡ true
  unfolding is_used
  put_used isk = rw (put_word entered_cell (omega arith), ne_eqb _ _ isk.named)

  pub put_holds : holds (entry_put table j key) key j ≡ true
  unfolding holds
  put_holds = every_true _ _ (λ m l. eq-eqb _ _ (put_word m l))

  -- and no other
  pub put_holds_only : (other : List ℕ) → IsKey key → IsKey other → holds (entry_put table j key) other j ≡ true → other ≡ key
  unfolding holds
  put_holds_only other isk iso h =
      ext_get_or 0 other key (iso.ten ∙ sym isk.ten)
      (λ m l. let b : m < words_per_entry = rw iso.ten at l in sym (eqb-true _ _ (every_at _ _ h m b)) ∙ put_word m b)

  pub put_used_other : (i : ℕ) → (i ≡ j → ⊥) → is_used (entry_put table j key) i ≡ is_used table i
  unfolding is_used
  put_used_other i d = rw (put_other i entered_cell d (omega arith))

  pub put_holds_other : (other : List ℕ) (i : ℕ) → (i ≡ j → ⊥) → holds (entry_put table j key) other i ≡ holds table other i
  unfolding holds
  put_holds_other other i d = every_same _ _ _ (λ m l. rw (put_other i m d l))

-- ---- an entry that holds a key, and one that is laid out

pub held_used : (table key : List ℕ) (j : ℕ) → IsKey key → holds table key j ≡ true → is_used table j ≡ true
unfolding is_used holds
held_used table key j isk h =
    let e : entry_word table j entered_cell ≡ get_or key entered_cell 0 = eqb-true _ _ (every_at _ _ h entered_cell (omega arith)) in
    rw (e, ne_eqb _ _ isk.named)

pub laid_unused : (table : List ℕ) (j : ℕ) → j < entries_in table → is_used (laid_out table) j ≡ false
unfolding entry_word is_used laid_out
laid_unused table j l =
    rw (cleared_word (entries_in table * words_per_entry) table (j * words_per_entry + entered_cell) (omega arith))
