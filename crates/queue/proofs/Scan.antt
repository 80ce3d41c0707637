-- The scan over the queued places: what it gives is queued, it gives `none` just where nothing is queued, and where no queued f is a NaN no queued place is
-- before it, and it is the only one of which that holds. Assumes nothing.
use Prim.Native.Nat.{ℕ, zero, suc, ◌≤◌, ◌<◌}
use native.Mathlib.Omega.{arith}
use native.Mathlib.Decide.{dec_lt}
use mathlib.Core.Path.{◌≡◌, refl, sym, ap₂, ◌∙◌, subst}
use mathlib.Core.Bool.{Bool, true, false, not, cond}
use mathlib.Core.Logic.{◌⊎◌, inl, inr, ⊎_elim}
use lib.Dec.{T}
use lib.Ieee.{Float, is_nan}
use Rattle.float.proofs.Tests.{failed, untrue}
use Rattle.queue.specs.Queue.{none, before, better, own_of, least_below, least_of, Least, NoNan, Empty}
use Rattle.queue.proofs.Order.{neither_before, not_before_transitive}
use Rattle.queue.proofs.Order.{better_cases, better_place_left, better_place_right, better_left, better_right, better_same}

-- ---- a word is no place, or a queued one

abbrev pub Held : ℕ → (ℕ → Bool) → ℕ → Type 0
Held n q w = (w ≡ none) ⊎ ((w < n) × (q w ≡ true))

pub held_own : (n : ℕ) (q : ℕ → Bool) (i : ℕ) → i < n → Held n q (own_of i (q i))
unfolding own_of
held_own n q i l = go (q i) refl
  where
    go : (b : Bool) → q i ≡ b → Held n q (cond b i none)
    go true e = inr (l, e)
    go false e = inl refl

pub own_queued : (q : ℕ → Bool) (i : ℕ) → q i ≡ true → own_of i (q i) ≡ i
unfolding own_of
own_queued q i e = rw e

-- what is held and a place is queued
pub held_queued : (n : ℕ) (q : ℕ → Bool) (w : ℕ) → n ≤ none → Held n q w → w < n → q w ≡ true
held_queued n q w m h l = ⊎_elim (λ e. absurd (omega arith)) (λ e. e.1) h

-- a place before which nothing that is queued is
module _ (f : ℕ → Float) (n : ℕ) (q : ℕ → Bool) (m : n ≤ none) where
  -- a word that is held, and a place if anything is queued, is `none` just where nothing is queued
  pub none_if_empty : (w : ℕ) → Held n q w → Empty n q → w ≡ none
  none_if_empty w h e = ⊎_elim (λ g. g) (λ g. untrue (sym (e w g.0) ∙ g.1)) h

  pub empty_if_none : (w : ℕ) → ((j : ℕ) → j < n → q j ≡ true → w < n) → w ≡ none → Empty n q
  empty_if_none w h e j l = failed (q j) (λ g. let z : w < n = h j l g in omega arith)

  pub least_unless_empty : (w : ℕ) → Held n q w → ((j : ℕ) → j < n → q j ≡ true → w < n) → ((j : ℕ) → j < n → q j ≡ true → before f j w ≡ false)
      → ((w ≡ none) × Empty n q) ⊎ Least f n q w
  least_unless_empty w h r b =
      ⊎_elim (λ e. inl (e, empty_if_none w r e)) (λ e. inr (record { place = e.0; queued = e.1; first = b })) h

  pub least_unique : NoNan f n q → (v w : ℕ) → Least f n q v → Least f n q w → v ≡ w
  least_unique o v w a b =
      neither_before f v w (o v a.place a.queued) (o w b.place b.queued) (b.first v a.place a.queued) (a.first w b.place b.queued)

  -- so two words of which either may be said are equal
  pub told_unique : NoNan f n q → (v w : ℕ) → ((v ≡ none) × Empty n q) ⊎ Least f n q v → ((w ≡ none) × Empty n q) ⊎ Least f n q w → v ≡ w
  told_unique o v w x y =
      ⊎_elim (λ a. ⊎_elim (λ b. a.0 ∙ sym b.0) (λ b. never w a.1 b) y) (λ a. ⊎_elim (λ b. never v b.1 a) (least_unique o v w a) y) x
    where
      never : {A : Type 0} (u : ℕ) → Empty n q → Least f n q u → A
      never u e l = untrue (sym (e u l.place) ∙ l.queued)

-- ---- the scan

below_or_last : (j m : ℕ) → j < suc m → (j < m) ⊎ (j ≡ m)
below_or_last j m h = go (dec_lt j m)
  where
    go : Dec (j < m) → (j < m) ⊎ (j ≡ m)
    go (yes l) = inl l
    go (no l) = inr (omega arith)

module _ (f : ℕ → Float) (n : ℕ) (q : ℕ → Bool) (few : n ≤ none) where
  scan_held : (m : ℕ) → m ≤ n → Held n q (least_below f n q m)
  unfolding least_below
  scan_held zero l = inl refl
  scan_held (suc m) l = better_cases f n (least_below f n q m) (own_of m (q m)) (Held n q) (scan_held m (omega arith)) (held_own n q m (omega arith))

  scan_place : (m : ℕ) → m ≤ n → (j : ℕ) → j < m → q j ≡ true → least_below f n q m < n
  unfolding least_below
  scan_place zero l j h e = absurd (omega arith)
  scan_place (suc m) l j h e =
      ⊎_elim
      (λ g. better_place_left f n (least_below f n q m) (own_of m (q m)) (scan_place m (omega arith) j g e))
      (λ g. better_place_right f n (least_below f n q m) (own_of m (q m)) (rw (own_queued q m (subst (λ (v : ℕ). q v ≡ true) g e)) (omega arith)))
      (below_or_last j m h)

  module _ (o : NoNan f n q) where
    no_nan : (w : ℕ) → Held n q w → w < n → T (not (is_nan (f w)))
    no_nan w h l = o w l (held_queued n q w few h l)

    scan_first : (m : ℕ) → m ≤ n → (j : ℕ) → j < m → q j ≡ true → before f j (least_below f n q m) ≡ false
    unfolding least_below
    scan_first zero l j h e = absurd (omega arith)
    scan_first (suc m) l j h e = go (scan_first m (omega arith)) (below_or_last j m h)
      where
        v : ℕ
        v = least_below f n q m

        hv : Held n q v
        hv = scan_held m (omega arith)

        hm : Held n q (own_of m (q m))
        hm = held_own n q m (omega arith)

        go : ((j : ℕ) → j < m → q j ≡ true → before f j v ≡ false) → (j < m) ⊎ (j ≡ m) → before f j (better f n v (own_of m (q m))) ≡ false
        go r (inl g) =
            let lv : v < n = scan_place m (omega arith) j g e in
            not_before_transitive f j v (o j (omega arith) e) (no_nan v hv lv) (better f n v (own_of m (q m)))
            (no_nan (better f n v (own_of m (q m))) (better_cases f n v (own_of m (q m)) (Held n q) hv hm) (better_place_left f n v (own_of m (q m)) lv))
            (r j g e)
            (better_left f n v (own_of m (q m)) lv)
        go r (inr g) =
            let p : own_of m (q m) ≡ j = own_queued q m (subst (λ (u : ℕ). q u ≡ true) g e) ∙ sym g in
            subst (λ (u : ℕ). before f u (better f n v (own_of m (q m))) ≡ false) p
            (better_right f n v (own_of m (q m)) (no_nan v hv) (rw p (omega arith)) (rw p (o j (omega arith) e)))

-- ---- what the least is

module _ (f : ℕ → Float) (n : ℕ) (q : ℕ → Bool) (few : n ≤ none) where
  -- a queued place, or `none`
  pub least_held : (least_of f n q ≡ none) ⊎ ((least_of f n q < n) × (q (least_of f n q) ≡ true))
  unfolding least_of
  least_held = scan_held f n q few n (omega arith)

  -- `none` just where nothing is queued
  pub least_of_empty : Empty n q → least_of f n q ≡ none
  least_of_empty e = none_if_empty f n q few (least_of f n q) least_held e

  pub least_none : least_of f n q ≡ none → Empty n q
  unfolding least_of
  least_none = empty_if_none f n q few (least_of f n q) (λ j l e. scan_place f n q few n (omega arith) j l e)

  pub least_told : NoNan f n q → ((least_of f n q ≡ none) × Empty n q) ⊎ Least f n q (least_of f n q)
  unfolding least_of
  least_told o =
      least_unless_empty f n q few (least_of f n q) least_held (λ j l e. scan_place f n q few n (omega arith) j l e)
      (λ j l e. scan_first f n q few o n (omega arith) j l e)

  -- it is queued, and no queued place is before it
  pub least_is_least : NoNan f n q → (j : ℕ) → j < n → q j ≡ true → Least f n q (least_of f n q)
  least_is_least o j l e = ⊎_elim (λ g. untrue (sym (g.1 j l) ∙ e)) (λ g. g) (least_told o)

  -- and the only place that is so
  pub least_is : NoNan f n q → (w : ℕ) → Least f n q w → least_of f n q ≡ w
  least_is o w h = least_unique f n q few o (least_of f n q) w (least_is_least o w h.place h.queued) h

-- ---- only which places are queued matters, and their f

module _ (f g : ℕ → Float) (n : ℕ) (q p : ℕ → Bool) (few : n ≤ none) (qp : (i : ℕ) → i < n → q i ≡ p i) (fg : (i : ℕ) → i < n → q i ≡ true → f i ≡ g i) where
  pub better_alike : (a b : ℕ) → Held n q a → Held n q b → better f n a b ≡ better g n a b
  better_alike a b x y = better_same f n a b g (λ l. fg a l (held_queued n q a few x l)) (λ l. fg b l (held_queued n q b few y l))

  pub own_same : (i : ℕ) → i < n → own_of i (q i) ≡ own_of i (p i)
  unfolding own_of
  own_same i l = rw (qp i l)

  scan_same : (m : ℕ) → m ≤ n → least_below f n q m ≡ least_below g n p m
  unfolding least_below
  scan_same zero l = refl
  scan_same (suc m) l =
      better_alike (least_below f n q m) (own_of m (q m)) (scan_held f n q few m (omega arith)) (held_own n q m (omega arith))
      ∙ ap₂ (better g n) (scan_same m (omega arith)) (own_same m (omega arith))

  pub least_same : least_of f n q ≡ least_of g n p
  unfolding least_of
  least_same = scan_same n (omega arith)
