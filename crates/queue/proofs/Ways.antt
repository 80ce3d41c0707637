-- Each way through the queue's functions is the definition's, by what the code has found out on it. Assumes nothing.
use Prim.Native.Nat.{ℕ, ◌+◌, ◌*◌, ◌/◌, ◌≤◌, ◌<◌, max}
use native.Mathlib.Omega.{arith}
use mathlib.Core.Path.{◌≡◌, refl, sym, ap, ◌∙◌}
use mathlib.Core.Bool.{Bool, true, false}
use mathlib.Core.List.{List}
use borrow.Author.Tests.{lt-leb}
use lib.Dec.{eqb}
use lib.Ieee.{Float}
use lib.ListN.{length, get_or, set}
use Rattle.queue.specs.Queue.{before, lone_of, better, own_of, put, Tree}
use Rattle.queue.specs.Words.{Rows, queued_in, queue_of}
use Rattle.queue.specs.Climb.{repaired, stays, climbed, path_repaired}
use Rattle.queue.proofs.Order.{better_lone}
use Rattle.queue.proofs.Lent.{row_inside}
use Rattle.queue.proofs.Change.{repaired_word, repaired_length, climb_turn, climb_stop, climb_end, path_words}

-- ---- the better of two words

module _ (n a b : ℕ) {g : ℕ} (greater : g ≡ max a b) where
  pub one_at_most : (f : ℕ → Float) → n ≤ g → {w : ℕ} → w ≡ lone_of n a b → w ≡ better f n a b
  one_at_most f h e = e ∙ sym (better_lone f n a b (omega (arith, greater, h)))

  module _ (both : g < n) where
    left_place : a < n
    left_place = omega (arith, greater, both)

    right_place : b < n
    right_place = omega (arith, greater, both)

    module _ {stride at : ℕ} {fs : List Float} (rows : Rows n stride at fs) where
      pub left_inside : a * stride + at < length fs
      left_inside = row_inside n stride at fs rows a left_place

      pub right_inside : b * stride + at < length fs
      right_inside = row_inside n stride at fs rows b right_place

    module _ (f : ℕ → Float) {c : Bool} (asked : c ≡ before f a b) where
      pub left_better : c ≡ true → a ≡ better f n a b
      unfolding better
      left_better e = rw (lt-leb n a left_place, lt-leb n b right_place, ← asked, e)

      pub right_better : c ≡ false → b ≡ better f n a b
      unfolding better
      right_better e = rw (lt-leb n a left_place, lt-leb n b right_place, ← asked, e)

-- ---- a word is repaired

module _ (f : ℕ → Float) (n k : ℕ) (t : List ℕ) {w : ℕ} (e : w ≡ better f n (get_or t (2 * k) 0) (get_or t (2 * k + 1) 0)) where
  pub repair_words : set t k w ≡ repaired f n k t
  unfolding repaired
  repair_words = rw e

  pub repair_stays : k < length t → eqb w (get_or t k 0) ≡ stays f n k t
  repair_stays l = rw (e, repaired_word f n k t l)

-- ---- the climb

-- what was to be repaired from `from` on is what is left to be repaired from k on
pub record Climbing (f : ℕ → Float) (n from : ℕ) (was : List ℕ) (k : ℕ) (t : List ℕ) : Type 0 where
  pub low : k < n
  pub long : length t ≡ length was
  pub left : climbed f n from from was ≡ climbed f n k k t

pub climb_begins : {f : ℕ → Float} {n from : ℕ} {t : List ℕ} → from < n → Climbing f n from t from t
climb_begins l = record { low = l; long = refl; left = refl }

module _ {f : ℕ → Float} {n from k : ℕ} {was t : List ℕ} (h : Climbing f n from was k t) where
  pub climb_over : k ≤ 0 → t ≡ climbed f n from from was
  climb_over l =
      let e : k ≡ 0 = omega arith in
      sym (h.left ∙ ap (λ (m : ℕ). climbed f n m m t) e ∙ climb_end f n t)

  module _ (l : 0 < k) {after : List ℕ} (done : after ≡ repaired f n k t) where
    pub climb_long : length after ≡ length was
    climb_long = ap length done ∙ repaired_length f n k t ∙ h.long

    module _ {b : Bool} (asked : b ≡ stays f n k t) where
      pub climb_stays : b ≡ true → after ≡ climbed f n from from was
      climb_stays e = done ∙ sym (h.left ∙ climb_stop f n k t l (sym asked ∙ e))

      pub climb_on : b ≡ false → Climbing f n from was (k / 2) after
      climb_on e = record {
        low = omega (arith, h.low, l);
        long = climb_long;
        left = h.left ∙ climb_turn f n k t l (sym asked ∙ e) ∙ ap (climbed f n (k / 2) (k / 2)) (sym done);
      }

-- ---- a place is put in or taken out

module _ (f : ℕ → Float) (n i : ℕ) (b : Bool) (t : List ℕ) where
  pub path_told : {w : ℕ} → w ≡ own_of i b → {after : List ℕ} → after ≡ climbed f n ((n + i) / 2) ((n + i) / 2) (set t (n + i) w)
      → after ≡ path_repaired f n i b t
  unfolding path_repaired
  path_told own e = e ∙ rw own

  pub place_told : i < n → Tree f n (queued_in n t) t → {after : List ℕ} → after ≡ path_repaired f n i b t
      → after ≡ queue_of f n (put (queued_in n t) i b) t
  place_told l tree e = e ∙ path_words f n (queued_in n t) i l b t tree
