-- What comes of a key that is looked up: where looking stops says whether it was seen, whether there is room, and where it goes; and what the table is then,
-- how long and with which keys. Assumes nothing.
use Rattle.std.proofs.Common.{◌≡◌, ℕ, ◌+◌, ◌*◌, ◌<◌, ◌≤◌, Bool, true, false, cond, not, ◌||◌, ltb, ◌⊎◌, List, [], ◌∷◌, length, sym, refl, ◌∙◌, inl, inr, arith, ltb-true, le-ltb, lt-ltb}
use native.Mathlib.Decide.{dec_lt}
use Rattle.counts.specs.Counts.{first}
use Rattle.counts.proofs.Laws.{every_at, some_true, some_at, first_is, first_below, first_same}
use Rattle.queue.specs.Queue.{none}
use Rattle.steps.specs.declared.Node.{Node}
use Rattle.seen.specs.declared.Entry.TheVariants.{New, Seen, NoRoom}
use Rattle.seen.specs.declared.Spot.TheVariants.{Held, Free, Nowhere}
use Rattle.seen.specs.Table.{words_per_entry, key_of, entries_in, is_used, holds, slot_at, stops, spot_at, found_in, laid_out}
use Rattle.seen.specs.Table.{is_seen, is_full, free_slot, entered, remembered_of, remembered}
use Rattle.seen.specs.Kept.{IsKey, Kept, laid, more, Records}
use Rattle.seen.proofs.Slots.{slot_below, slot_every}
use Rattle.seen.proofs.Scan.{entries_room, row_inside}
use Rattle.seen.proofs.Entries.{held_used, entered_long, entries_same}
use Rattle.seen.proofs.Holding.{holding, clash, free_found, free_unused, is_not}

-- ---- what is found where looking stops

module _ (table key : List ℕ) (n i : ℕ) where
  spot_held : i < n → is_used table (slot_at n key i) ≡ true → spot_at table key n i ≡ Held
  unfolding spot_at
  spot_held l u = rw (lt-ltb i n l, u)

  spot_free : i < n → is_used table (slot_at n key i) ≡ false → spot_at table key n i ≡ Free (slot_at n key i)
  unfolding spot_at
  spot_free l u = rw (lt-ltb i n l, u)

  spot_nowhere : n ≤ i → spot_at table key n i ≡ Nowhere
  unfolding spot_at
  spot_nowhere l = rw (le-ltb i n l)

  -- a free one is an entry
  spot_below : (j : ℕ) → spot_at table key n i ≡ Free j → j < n
  unfolding spot_at
  spot_below j e = go (ltb i n) refl (is_used table (slot_at n key i)) e
    where
      go : (a : Bool) → ltb i n ≡ a → (b : Bool) → cond a (cond b Held (Free (slot_at n key i))) Nowhere ≡ Free j → j < n
      go true p true q = absurd (let z : ◌≡◌ {A = ℕ} 0 1 = cc in omega arith)
      go true p false q =
          let s : slot_at n key i ≡ j = cc in
          let b : slot_at n key i < n = slot_below n key i (omega (arith, ltb-true i n p)) in
          omega arith
      go false p b q = absurd (let z : ◌≡◌ {A = ℕ} 0 1 = cc in omega arith)

stops_held : (table key : List ℕ) (j : ℕ) → holds table key j ≡ true → stops table key j ≡ true
unfolding stops
stops_held table key j h = rw h (go (is_used table j))
  where
    go : (b : Bool) → (not b || true) ≡ true
    go true = refl
    go false = refl

stops_unheld : (table key : List ℕ) (j : ℕ) → holds table key j ≡ false → stops table key j ≡ not (is_used table j)
unfolding stops
stops_unheld table key j h = rw h (go (is_used table j))
  where
    go : (b : Bool) → (not b || false) ≡ not b
    go true = refl
    go false = refl

-- ---- where looking stops

module _ (table key : List ℕ) where
  abbrev stops_at : ℕ → Bool
  stops_at i = stops table key (slot_at (entries_in table) key i)

  abbrev stop_at : ℕ
  stop_at = first (entries_in table) stops_at

  found_at : found_in table key (entries_in table) ≡ spot_at table key (entries_in table) stop_at
  unfolding found_in
  found_at = refl

  -- there is room for a key at a free entry
  pub found_inside : (j : ℕ) → found_in table key (entries_in table) ≡ Free j → (j + 1) * words_per_entry ≤ length table
  found_inside j e = row_inside (entries_in table) j table (entries_room table) (spot_below table key (entries_in table) stop_at j (sym found_at ∙ e))

  -- a key that was entered is come to before an unused entry
  pub found_held : {keys : List (List ℕ)} → Kept keys table → IsKey key → is_seen table key ≡ true → found_in table key (entries_in table) ≡ Held
  unfolding is_seen
  found_held k isk e = go (some_at _ _ e)
    where
      used : (i : ℕ) → i < entries_in table → holds table key (slot_at (entries_in table) key i) ≡ true → stop_at ≤ i → Dec (stop_at < i)
          → is_used table (slot_at (entries_in table) key stop_at) ≡ true
      used i l h b (yes s) = (holding k).reach key isk i l h stop_at s
      used i l h b (no s) = let m : stop_at ≡ i = omega arith in rw m (held_used table key _ isk h)

      stopped : (i : ℕ) → i < entries_in table → holds table key (slot_at (entries_in table) key i) ≡ true → found_in table key (entries_in table) ≡ Held
      stopped i l h =
          let b : stop_at ≤ i = first_below (entries_in table) stops_at i l (stops_held table key _ h) in
          found_at ∙ spot_held table key (entries_in table) stop_at (omega arith) (used i l h b (dec_lt stop_at i))

      go : (j : ℕ) × (j < entries_in table) × (holds table key j ≡ true) → found_in table key (entries_in table) ≡ Held
      go (j, l, h) = let s = slot_every (entries_in table) key j l in stopped s.0 s.1 (rw s.2 h)

  module _ (unseen : is_seen table key ≡ false) where
    unheld : (j : ℕ) → j < entries_in table → holds table key j ≡ false
    unfolding is_seen
    unheld j l = is_not _ (λ h. clash (some_true _ _ j l h) unseen)

    stops_unused : (i : ℕ) → i < entries_in table → stops_at i ≡ not (is_used table (slot_at (entries_in table) key i))
    stops_unused i l = stops_unheld table key _ (unheld _ (slot_below (entries_in table) key i (omega arith)))

    -- a new one stops at the first unused entry
    pub found_free : is_full table ≡ false → found_in table key (entries_in table) ≡ Free (free_slot table key)
    unfolding free_slot
    found_free room =
        let e : stop_at ≡ first (entries_in table) (λ i. not (is_used table (slot_at (entries_in table) key i)))
        = first_same (entries_in table) stops_at _ stops_unused in
        found_at ∙ rw e (spot_free table key (entries_in table) _ (free_found table key room) (free_unused table key room))

    -- and goes round where there is none
    pub found_nowhere : is_full table ≡ true → found_in table key (entries_in table) ≡ Nowhere
    unfolding is_full
    found_nowhere full =
        let e : stop_at ≡ entries_in table = first_is (entries_in table) stops_at (entries_in table) (omega arith)
        (λ i l. rw (stops_unused i l, every_at (entries_in table) (is_used table) full _ (slot_below (entries_in table) key i (omega arith))))
        (λ l. absurd (omega arith)) in
        found_at ∙ spot_nowhere table key (entries_in table) stop_at (omega arith)

-- ---- the table then

pub remembered_long : (recording : Bool) (table key : List ℕ) → length (remembered recording table key).table ≡ length table
unfolding remembered
remembered_long false table key = refl
remembered_long true table key = go (is_seen table key) (is_full table)
  where
    go : (a b : Bool) → length (cond a (remembered_of Seen table) (cond b (remembered_of NoRoom table) (remembered_of New (entered table key)))).table
        ≡ length table
    go true b = refl
    go false true = refl
    go false false = entered_long table key

pub remembered_entries : (recording : Bool) (table key : List ℕ) → entries_in (remembered recording table key).table ≡ entries_in table
remembered_entries recording table key = entries_same _ _ (remembered_long recording table key)

-- where nothing is recorded it stays
pub remembered_still : (table key : List ℕ) → remembered false table key ≡ remembered_of New table
unfolding remembered
remembered_still table key = refl

-- while recording its keys are those before, or these and the one that was looked up
pub kept_remembered_keys : {keys : List (List ℕ)} {table key : List ℕ} → Kept keys table → IsKey key
    → (after : List (List ℕ)) × ((after ≡ keys) ⊎ (after ≡ key ∷ keys)) × Kept after (remembered true table key).table
unfolding remembered
kept_remembered_keys {keys} {table} {key} k isk = go (is_seen table key) refl (is_full table) refl
  where
    go : (a : Bool) → is_seen table key ≡ a → (b : Bool) → is_full table ≡ b
        → (after : List (List ℕ)) × ((after ≡ keys) ⊎ (after ≡ key ∷ keys))
        × Kept after (cond a (remembered_of Seen table) (cond b (remembered_of NoRoom table) (remembered_of New (entered table key)))).table
    go true p b q = (keys, inl refl, k)
    go false p true q = (keys, inl refl, k)
    go false p false q = (key ∷ keys, inr refl, more keys table key k isk p q)

-- a table in which a search records stays one
pub kept_remembered : (recording : Bool) (table key : List ℕ) → (recording ≡ true → Records table) → IsKey key
    → recording ≡ true → Records (remembered recording table key).table
kept_remembered recording table key r isk e =
    let w = kept_remembered_keys (r e).kept isk in
    rw e (record { keys = w.0; kept = w.2 })

-- one that is laid out is such a table
pub records_laid : (table : List ℕ) → Records (laid_out table)
records_laid table = record { keys = []; kept = laid table }

-- ---- a node's key

pub node_key : (node : Node) → (node.polygon ≡ none → ⊥) → IsKey (key_of node)
unfolding key_of
node_key node named = record { ten = refl; named = named }
