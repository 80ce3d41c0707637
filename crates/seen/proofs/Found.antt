-- Where looking stops tells what a recording search asks. Assumes nothing.
use Rattle.std.proofs.Common.{◌≡◌, ℕ, Bool, true, false, cond, List, refl}
use Rattle.seen.specs.declared.Entry.TheVariants.{New, Seen, NoRoom}
use Rattle.seen.specs.declared.Spot.{Spot}
use Rattle.seen.specs.declared.Spot.TheVariants.{Held, Free, Nowhere}
use Rattle.seen.specs.Table.{entries_in, found_in, entry_put, is_seen, is_full, entered, Remembered, remembered_of, remembered}
use Rattle.seen.specs.Kept.{IsKey, Kept}
use Rattle.seen.proofs.Remembering.{found_held, found_free, found_nowhere}

-- what is answered and stored at each end of looking
unfoldable pub by_spot : List ℕ → List ℕ → Spot → Remembered
by_spot table key Held = remembered_of Seen table
by_spot table key (Free j) = remembered_of New (entry_put table j key)
by_spot table key Nowhere = remembered_of NoRoom table

-- where looking stops tells what a recording search asks
pub found_tells : {keys : List (List ℕ)} (table key : List ℕ) → Kept keys table → IsKey key
    → by_spot table key (found_in table key (entries_in table)) ≡ remembered true table key
unfolding by_spot entered remembered
found_tells table key k isk = go (is_seen table key) refl (is_full table) refl
  where
    go : (a : Bool) → is_seen table key ≡ a → (b : Bool) → is_full table ≡ b
        → by_spot table key (found_in table key (entries_in table))
        ≡ cond (is_seen table key) (remembered_of Seen table) (cond (is_full table) (remembered_of NoRoom table) (remembered_of New (entered table key)))
    go true p b q = rw (found_held table key k isk p, p)
    go false p true q = rw (found_nowhere table key p q, p, q)
    go false p false q = rw (found_free table key p q, p, q)
