-- What recording is for: it begins when more than 512 pops in a row have not raised last_f, it never ends, and from then on a node whose ten words were
-- entered is dropped, and nothing changes. Rests on specs/Search and seen/specs/Kept. Assumes nothing.
use Prim.Native.Nat.{ℕ, ◌+◌, ◌≤◌}
use native.Mathlib.Omega.{arith}
use mathlib.Core.Path.{◌≡◌, refl, sym, ap, ◌∙◌}
use mathlib.Core.Bool.{Bool, true, false, cond}
use mathlib.Core.List.{List, Memᴰ}
use mathlib.Core.Logic.{◌↔◌}
use borrow.Author.Tests.{ltb-true, lt-ltb}
use lib.Dec.{ltb}
use lib.Ieee.{Float, lt}
use Rattle.std.specs.Prelude.{None}
use Rattle.stored.specs.Stored.{Floor}
use Rattle.places.specs.Layout.{node_at}
use Rattle.seen.specs.declared.Entry.TheVariants.{Seen}
use Rattle.seen.specs.Table.{key_of, is_seen, Remembered, remembered_of, remembered}
use Rattle.seen.specs.Kept.{IsKey, Kept}
use Rattle.seen.proofs.Holding.{kept_seen}
use Rattle.machine.specs.declared.Task.{Task}
use Rattle.machine.specs.declared.Stall.{Stall}
use Rattle.machine.specs.Search.{Searching, turning, is_beaten, noticed, met, visited}

-- ---- when recording begins

module _ (s : Stall) (value : Float) (quiet : s.recording ≡ false) (low : lt s.last_f value ≡ false) where
  counted_on_lem : noticed s value ≡ record { last_f = s.last_f; count = s.count + 1; recording = ltb 512 (s.count + 1) }
  unfolding noticed
  counted_on_lem = ap (λ (a : Bool). cond a s (cond (lt s.last_f value) risen on)) quiet ∙ ap (λ (b : Bool). cond b risen on) low
    where
      risen : Stall
      risen = record { last_f = value; count = 0; recording = false }

      on : Stall
      on = record { last_f = s.last_f; count = s.count + 1; recording = ltb 512 (s.count + 1) }

  -- "recording once that count is above 512": with the pop that makes it so
  pub records_above_512 : (noticed s value).recording ≡ true ↔ (512 ≤ s.count)
  records_above_512 =
      let is = ap (λ (y : Stall). y.recording) counted_on_lem in (
        (λ e. let l = ltb-true 512 (s.count + 1) (sym is ∙ e) in omega arith),
        (λ l. is ∙ lt-ltb 512 (s.count + 1) (omega (arith, l))),
      )

-- ---- a node that was met before

-- a popped node whose ten words are among those that were entered is dropped: no node is made, no entry is written, and the search goes on
pub entered_is_dropped : (f : Floor) (t : Task) (x : Searching) (i : ℕ) {keys : List (List ℕ)} → x.stall.recording ≡ true → Kept keys x.table
    → let key = key_of (node_at x.state.work i) in IsKey key → Memᴰ key keys → visited f t x i ≡ turning x None
unfolding visited
entered_is_dropped f t x i recording kept isk among =
    ap (λ (r : Remembered). cond (is_beaten x.state (node_at x.state.work i)) (turning x None) (met f t x i r.entry r.table)) told
    ∙ go (is_beaten x.state (node_at x.state.work i))
  where
    key : List ℕ
    key = key_of (node_at x.state.work i)

    seen : is_seen x.table key ≡ true
    seen = (kept_seen kept isk).1 among

    told : remembered x.stall.recording x.table key ≡ remembered_of Seen x.table
    told = unfold remembered in rw (recording, seen)

    go : (b : Bool) → cond b (turning x None) (met f t x i Seen x.table) ≡ turning x None
    go true = refl
    go false = refl
