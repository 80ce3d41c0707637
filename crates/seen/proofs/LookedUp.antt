-- What comes of a key that is looked up, as it stands in the code: the key is the node's, and the search records. Assumes nothing.
use Rattle.std.proofs.Common.{◌≡◌, ℕ, Bool, true, List}
use Rattle.seen.specs.declared.Entry.TheVariants.{New, Seen, NoRoom}
use Rattle.seen.specs.declared.Spot.{Spot}
use Rattle.seen.specs.declared.Spot.TheVariants.{Held, Free, Nowhere}
use Rattle.seen.specs.Table.{entries_in, found_in, entry_put, remembered_of, remembered}
use Rattle.seen.specs.Kept.{IsKey, Records}
use Rattle.seen.proofs.Found.{by_spot, found_tells}

module _ (recording : Bool) (table key own : List ℕ) (spot : Spot) (d : recording ≡ true) (r : recording ≡ true → Records table) (isk : IsKey own)
    (e : key ≡ own) (s : spot ≡ found_in table key (entries_in table)) where
  looked_up : by_spot table key spot ≡ remembered recording table own
  looked_up = rw (d, s, e) (found_tells table own (r d).kept isk)

  pub looked_held : spot ≡ Held → remembered_of Seen table ≡ remembered recording table own
  unfolding by_spot
  looked_held h = rw h at looked_up

  pub looked_free : (j : ℕ) → spot ≡ Free j → (after : List ℕ) → after ≡ entry_put table j key → remembered_of New after ≡ remembered recording table own
  unfolding by_spot
  looked_free j h after a = rw a (rw h at looked_up)

  pub looked_nowhere : spot ≡ Nowhere → remembered_of NoRoom table ≡ remembered recording table own
  unfolding by_spot
  looked_nowhere h = rw h at looked_up
