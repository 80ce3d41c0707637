-- From a sound state every place that is taken can be told: the rows of its chain lie in the lent buffers. Rests on specs/Sound and specs/Writing.
-- Assumes nothing.
use Prim.Native.Nat.{ℕ, zero, suc, ◌+◌, ◌*◌, ◌≤◌, ◌<◌}
use native.Mathlib.Decide.{dec_lt}
use native.Mathlib.Numerals.{add-one}
use native.Mathlib.Omega.{arith}
use mathlib.Core.Path.{◌≡◌, subst}
use mathlib.Core.List.{List}
use lib.ListN.{length}
use Rattle.edges.specs.Ground.{Ground}
use Rattle.steps.specs.declared.Node.{Node}
use Rattle.machine.specs.declared.Task.{Task}
use Rattle.machine.specs.declared.Finish.{Finish}
use Rattle.machine.specs.declared.Finish.TheVariants.{Arrived, Emptied, Filled, Stopped, Crowded}
use Rattle.std.specs.Prelude.{Some}
use Rattle.places.specs.Layout.{words_per_place, Work, depth_at, parent_at}
use Rattle.machine.specs.Search.{State}
use Rattle.machine.specs.Sound.{Sound}
use Rattle.writing.specs.Writing.{Row, ChainLies, Tellable, Tells}
use Rattle.machine.proofs.Kept.{Arrives}

module _ (plan vs ps : List ℕ) (t : Task) (seed : Node) (s : State) (h : Sound plan vs ps t seed s) where
  abbrev w : Work
  w = s.work

  row_in : (i : ℕ) → i < s.counts.taken → Row w.floats w.words i
  row_in i l = record {
    in_floats = omega (arith, h.fit.room.floats_room, l, h.taken_in);
    in_words = omega (arith, h.fit.room.words_room, l, h.taken_in);
  }

  abbrev Lies : ℕ → Type 0
  Lies i = ChainLies w.floats w.words (depth_at w i) i

  lies_below : (m i : ℕ) → i < m → i < s.counts.taken → Lies i
  lies_below zero i b l = absurd (omega arith)
  lies_below (suc m) i b l = go (dec_lt 0 i) (lies_below m)
    where
      go : Dec (0 < i) → ((j : ℕ) → j < m → j < s.counts.taken → Lies j) → Lies i
      go (yes z) lower =
          let e = h.entered i z l in
          rw (e.deeper, add-one) (row_in i l, lower (parent_at w i) (omega (arith, e.lower, b)) (omega (arith, e.lower, l)))
      go (no z) lower =
          let zero_is : 0 ≡ i = omega arith in
          subst Lies zero_is (rw h.seed_depth tt)

  parent_in : (i : ℕ) → i < s.counts.taken → (parent_at w i + 1) * words_per_place ≤ length w.words
  parent_in zero l = omega (arith, h.seed_parent, h.fit.room.words_room, l, h.taken_in)
  parent_in (suc i) l = omega (arith, (h.entered (suc i) (omega arith) l).lower, h.fit.room.words_room, l, h.taken_in)

  pub place_tellable : (i : ℕ) → i < s.counts.taken → Tellable w.floats w.words i
  place_tellable i l = record {
    row = row_in i l;
    parent_row = parent_in i l;
    lies = lies_below (i + 1) i (omega arith) l;
    points_few = omega (arith, (h.held i l).points_few, (h.held i l).depth_few, l, h.taken_in, h.fit.room.few);
  }

  module _ (g : Ground plan vs ps) where
    pub finish_tells : (finish : Finish) → Arrives plan vs ps t seed g s (Some finish) → Tells w.floats w.words finish
    finish_tells (Arrived i) at = place_tellable i at.0
    finish_tells Emptied at = tt
    finish_tells Filled at = tt
    finish_tells Stopped at = tt
    finish_tells Crowded at = tt
