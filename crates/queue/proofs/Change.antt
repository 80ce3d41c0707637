-- A push or a removal: place i's own word changes, and with the path above it repaired the words are the tree again, of the set that is meant. All words are
-- right but the one that is repaired next, and where that one stays what it was all are right. So the climb of the code comes to `queue_of`. Assumes nothing.
use Prim.Native.Nat.{ℕ, zero, suc, ◌+◌, ◌*◌, ◌/◌, ◌≤◌, ◌<◌}
use native.Mathlib.Omega.{arith}
use native.Mathlib.Decide.{ℕ_discrete}
use mathlib.Core.Path.{◌≡◌, refl, sym, ap, ap₂, ◌∙◌, subst}
use mathlib.Core.Bool.{Bool, true, false, cond}
use mathlib.Core.Logic.{◌⊎◌, inl, inr, ⊎_elim}
use mathlib.Core.List.{List, ◌++◌}
use borrow.Author.Tests.{eq-eqb, ne_eqb, eqb-true}
use lib.Dec.{eqb}
use lib.ListN.{length, get_or, set, drop, length-set}
use lib.Seq.{get_or-set_same, get_or-set_other, set-get_or, drop-set-lt}
use lib.Ieee.{Float}
use Rattle.queue.specs.Queue.{better, own_of, put, Tree, tree_words}
use Rattle.queue.specs.Words.{queue_of}
use Rattle.queue.specs.Climb.{repaired, stays, Except, climbed, path_repaired}
use Rattle.queue.proofs.Words.{tree_is}
use Rattle.queue.proofs.Queued.{put_same, put_other}

-- ---- right but for one word

-- a store leaves the other words
other : (t : List ℕ) (m w k : ℕ) → (k ≡ m → ⊥) → get_or (set t m w) k 0 ≡ get_or t k 0
other t m w k d = get_or-set_other t m k w 0 d

-- a store at word m leaves word k and its two, unless m is one of the three
rest : (f : ℕ → Float) (n : ℕ) (t : List ℕ) (m w k : ℕ) → (k ≡ m → ⊥) → (k ≡ m / 2 → ⊥)
    → get_or t k 0 ≡ better f n (get_or t (2 * k) 0) (get_or t (2 * k + 1) 0)
    → get_or (set t m w) k 0 ≡ better f n (get_or (set t m w) (2 * k) 0) (get_or (set t m w) (2 * k + 1) 0)
rest f n t m w k a b h =
    other t m w k a ∙ h
    ∙ sym (ap₂ (better f n) (other t m w (2 * k) (λ e. b (omega arith))) (other t m w (2 * k + 1) (λ e. b (omega arith))))

-- what a repair makes of its word
pub repaired_word : (f : ℕ → Float) (n k : ℕ) (t : List ℕ) → k < length t
    → get_or (repaired f n k t) k 0 ≡ better f n (get_or t (2 * k) 0) (get_or t (2 * k + 1) 0)
unfolding repaired
repaired_word f n k t l = get_or-set_same t k (better f n (get_or t (2 * k) 0) (get_or t (2 * k + 1) 0)) 0 l

-- after word n + i was stored only the word above it may be wrong
module _ (f : ℕ → Float) (n : ℕ) (q p : ℕ → Bool) (i w : ℕ) (t : List ℕ) (l : i < n) (v : w ≡ own_of i (p i))
    (s : (j : ℕ) → j < n → (j ≡ i → ⊥) → own_of j (q j) ≡ own_of j (p j)) where
  starts : Tree f n q t → Except f n p (set t (n + i) w) ((n + i) / 2)
  starts e = record {
    size = rw (length-set t (n + i) w) e.size;
    unused = λ z. other t (n + i) w 0 (λ g. omega arith) ∙ e.unused z;
    own = λ j h. at j h (ℕ_discrete j i);
    inner = λ k z h. inside k z h (ℕ_discrete k ((n + i) / 2));
  }
    where
      at : (j : ℕ) → j < n → Dec (j ≡ i) → get_or (set t (n + i) w) (n + j) 0 ≡ own_of j (p j)
      at j h (yes g) = rw g (get_or-set_same t (n + i) w 0 (omega (arith, e.size)) ∙ v)
      at j h (no g) = other t (n + i) w (n + j) (λ x. g (omega arith)) ∙ e.own j h ∙ s j h g

      inside : (k : ℕ) → 0 < k → k < n → Dec (k ≡ (n + i) / 2)
          → (k ≡ (n + i) / 2) ⊎ (get_or (set t (n + i) w) k 0 ≡ better f n (get_or (set t (n + i) w) (2 * k) 0) (get_or (set t (n + i) w) (2 * k + 1) 0))
      inside k z h (yes g) = inl g
      inside k z h (no g) = inr (rest f n t (n + i) w k (λ x. omega arith) g (e.inner k z h))

module _ (f : ℕ → Float) (n : ℕ) (q : ℕ → Bool) where
  -- after word k was repaired only the word above it may be wrong
  turns : (k : ℕ) (t : List ℕ) → 0 < k → k < n → Except f n q t k → Except f n q (repaired f n k t) (k / 2)
  unfolding repaired
  turns k t z l e = record {
    size = rw (length-set t k w) e.size;
    unused = λ y. other t k w 0 (λ g. omega arith) ∙ e.unused y;
    own = λ j h. other t k w (n + j) (λ g. omega arith) ∙ e.own j h;
    inner = λ m y h. inside m y h (ℕ_discrete m (k / 2)) (ℕ_discrete m k);
  }
    where
      w : ℕ
      w = better f n (get_or t (2 * k) 0) (get_or t (2 * k + 1) 0)

      inside : (m : ℕ) → 0 < m → m < n → Dec (m ≡ k / 2) → Dec (m ≡ k)
          → (m ≡ k / 2) ⊎ (get_or (set t k w) m 0 ≡ better f n (get_or (set t k w) (2 * m) 0) (get_or (set t k w) (2 * m + 1) 0))
      inside m y h (yes g) d = inl g
      inside m y h (no g) (yes d) =
          inr
          (rw d
          (get_or-set_same t k w 0 (omega (arith, e.size))
          ∙ sym (ap₂ (better f n) (other t k w (2 * k) (λ x. omega arith)) (other t k w (2 * k + 1) (λ x. omega arith)))))
      inside m y h (no g) (no d) = ⊎_elim (λ x. absurd (d x)) (λ x. inr (rest f n t k w m d g x)) (e.inner m y h)

  finishes : (t : List ℕ) → Except f n q t 0 → Tree f n q t
  finishes t e = record {
    size = e.size;
    unused = e.unused;
    own = e.own;
    inner = λ k z l. ⊎_elim (λ g. absurd (omega arith)) (λ g. g) (e.inner k z l);
  }

  -- on words that are right but for word k, a repair of k that leaves it what it was changes no word and leaves all right
  pub stays_right : (k : ℕ) (t : List ℕ) → k < n → Except f n q t k → stays f n k t ≡ true → Tree f n q (repaired f n k t)
  unfolding repaired
  stays_right k t l e s = subst (λ (v : List ℕ). Tree f n q v) (sym (ap (set t k) (sym same) ∙ set-get_or t k 0)) all
    where
      w : ℕ
      w = better f n (get_or t (2 * k) 0) (get_or t (2 * k + 1) 0)

      same : get_or t k 0 ≡ w
      same = sym (eqb-true (get_or (set t k w) k 0) (get_or t k 0) s) ∙ repaired_word f n k t (omega (arith, e.size))

      all : Tree f n q t
      all = record {
        size = e.size;
        unused = e.unused;
        own = e.own;
        inner = λ m z h. ⊎_elim (λ g. rw g same) (λ g. g) (e.inner m z h);
      }

  climbs : (d k : ℕ) (t : List ℕ) → k ≤ d → k < n → Except f n q t k → Tree f n q (climbed f n d k t)
  unfolding climbed
  climbs zero k t h l e = finishes t (subst (λ (v : ℕ). Except f n q t v) (omega arith) e)
  climbs (suc d) k t h l e = go (climbs d (k / 2) (repaired f n k t)) (ℕ_discrete k 0) (stays f n k t) refl
    where
      go : (k / 2 ≤ d → k / 2 < n → Except f n q (repaired f n k t) (k / 2) → Tree f n q (climbed f n d (k / 2) (repaired f n k t)))
          → Dec (k ≡ 0) → (s : Bool) → stays f n k t ≡ s
          → Tree f n q (cond (eqb k 0) t (cond s (repaired f n k t) (climbed f n d (k / 2) (repaired f n k t))))
      go r (yes g) s i = rw (eq-eqb k 0 g) (finishes t (subst (λ (v : ℕ). Except f n q t v) g e))
      go r (no g) true i = rw (ne_eqb k 0 g) (stays_right k t l e i)
      go r (no g) false i = rw (ne_eqb k 0 g) (r (omega arith) (omega arith) (turns k t (omega arith) l e))

-- ---- one path

-- how many words are allowed does not matter, where they are enough
climb_levels : (f : ℕ → Float) (n d e k : ℕ) (t : List ℕ) → k ≤ d → k ≤ e → climbed f n d k t ≡ climbed f n e k t
unfolding climbed
climb_levels f n zero zero k t h g = refl
climb_levels f n zero (suc e) k t h g = rw (eq-eqb k 0 (omega arith))
climb_levels f n (suc d) zero k t h g = rw (eq-eqb k 0 (omega arith))
climb_levels f n (suc d) (suc e) k t h g = go (climb_levels f n d e (k / 2) (repaired f n k t)) (ℕ_discrete k 0) (stays f n k t)
  where
    after : List ℕ
    after = repaired f n k t

    go : (k / 2 ≤ d → k / 2 ≤ e → climbed f n d (k / 2) after ≡ climbed f n e (k / 2) after) → Dec (k ≡ 0) → (s : Bool)
        → cond (eqb k 0) t (cond s after (climbed f n d (k / 2) after)) ≡ cond (eqb k 0) t (cond s after (climbed f n e (k / 2) after))
    go r (yes z) s = rw (eq-eqb k 0 z)
    go r (no z) true = rw (ne_eqb k 0 z)
    go r (no z) false = rw (ne_eqb k 0 z) (r (omega arith) (omega arith))

pub repaired_length : (f : ℕ → Float) (n k : ℕ) (t : List ℕ) → length (repaired f n k t) ≡ length t
unfolding repaired
repaired_length f n k t = length-set t k (better f n (get_or t (2 * k) 0) (get_or t (2 * k + 1) 0))

climbed_rest : (f : ℕ → Float) (n d k : ℕ) (t : List ℕ) → k < n → drop (2 * n) (climbed f n d k t) ≡ drop (2 * n) t
unfolding climbed repaired
climbed_rest f n zero k t l = refl
climbed_rest f n (suc d) k t l = go (eqb k 0) (stays f n k t) (climbed_rest f n d (k / 2) (repaired f n k t) (omega arith))
  where
    after : List ℕ
    after = repaired f n k t

    one : drop (2 * n) after ≡ drop (2 * n) t
    one = drop-set-lt (2 * n) t k (better f n (get_or t (2 * k) 0) (get_or t (2 * k + 1) 0)) (omega arith)

    go : (s u : Bool) → drop (2 * n) (climbed f n d (k / 2) after) ≡ drop (2 * n) after
        → drop (2 * n) (cond s t (cond u after (climbed f n d (k / 2) after))) ≡ drop (2 * n) t
    go true u r = refl
    go false true r = one
    go false false r = r ∙ one

one_turn : (f : ℕ → Float) (n d k : ℕ) (t : List ℕ) → 0 < k
    → climbed f n (suc d) k t ≡ cond (stays f n k t) (repaired f n k t) (climbed f n d (k / 2) (repaired f n k t))
unfolding climbed
one_turn f n d k t z = rw (ne_eqb k 0 (omega arith))

-- a turn of the loop, after which the climb goes on
pub climb_turn : (f : ℕ → Float) (n k : ℕ) (t : List ℕ) → 0 < k → stays f n k t ≡ false
    → climbed f n k k t ≡ climbed f n (k / 2) (k / 2) (repaired f n k t)
climb_turn f n k t z s = go k refl
  where
    go : (d : ℕ) → k ≡ d → climbed f n d k t ≡ climbed f n (k / 2) (k / 2) (repaired f n k t)
    go zero e = absurd (omega arith)
    go (suc d) e =
        rw s at (one_turn f n d k t z) ∙ climb_levels f n d (k / 2) (k / 2) (repaired f n k t) (omega arith) (omega arith)

-- one after which it stops
pub climb_stop : (f : ℕ → Float) (n k : ℕ) (t : List ℕ) → 0 < k → stays f n k t ≡ true → climbed f n k k t ≡ repaired f n k t
climb_stop f n k t z s = go k refl
  where
    go : (d : ℕ) → k ≡ d → climbed f n d k t ≡ repaired f n k t
    go zero e = absurd (omega arith)
    go (suc d) e = rw s at (one_turn f n d k t z)

-- and where the path ends
pub climb_end : (f : ℕ → Float) (n : ℕ) (t : List ℕ) → climbed f n 0 0 t ≡ t
unfolding climbed
climb_end f n t = refl

-- ---- a push and a removal

path_rest : (f : ℕ → Float) (n i : ℕ) (b : Bool) (t : List ℕ) → i < n → drop (2 * n) (path_repaired f n i b t) ≡ drop (2 * n) t
unfolding path_repaired
path_rest f n i b t l =
    climbed_rest f n ((n + i) / 2) ((n + i) / 2) (set t (n + i) (own_of i b)) (omega arith) ∙ drop-set-lt (2 * n) t (n + i) (own_of i b) (omega arith)

module _ (f : ℕ → Float) (n : ℕ) (q : ℕ → Bool) (i : ℕ) (l : i < n) (b : Bool) where
  -- the tree of the one set becomes that of the other,
  pub path_tree : (t : List ℕ) → Tree f n q t → Tree f n (put q i b) (path_repaired f n i b t)
  unfolding path_repaired
  path_tree t e =
      climbs f n (put q i b) ((n + i) / 2) ((n + i) / 2) (set t (n + i) (own_of i b)) (omega arith) (omega arith)
      (starts f n q (put q i b) i (own_of i b) t l (ap (own_of i) (sym (put_same q i b))) (λ j h d. ap (own_of j) (sym (put_other q i b j d))) e)

  -- and what stands behind it stays
  pub path_words : (t : List ℕ) → Tree f n q t → path_repaired f n i b t ≡ queue_of f n (put q i b) t
  unfolding queue_of
  path_words t e =
      tree_is f n (put q i b) (path_repaired f n i b t) (path_tree t e) ∙ ap (λ (s : List ℕ). tree_words f n (put q i b) ++ s) (path_rest f n i b t l)
