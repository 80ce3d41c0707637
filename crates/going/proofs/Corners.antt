-- The corners of a polygon as the walk has them: a list of points whose edges are the polygon's. Assumes nothing.
use Prim.Native.Nat.{ℕ, zero, suc, ◌+◌, ◌-◌, ◌<◌}
use native.Mathlib.Decide.{dec_lt}
use native.Mathlib.Omega.{arith}
use mathlib.Core.Path.{◌≡◌, sym, ap, ◌∙◌}
use mathlib.Core.Bool.{true, false}
use mathlib.Core.List.{List, [], ◌∷◌, ◌++◌, append_assoc, append-nil}
use borrow.Author.Tests.{eq-eqb}
use lib.Dec.{eqb}
use lib.ListN.{length}
use Rattle.counts.specs.Counts.{first, table}
use Rattle.counts.proofs.Laws.{first_at, first_before, get_or_table, length_table}
use Rattle.point.specs.declared.Point.{Point}
use Rattle.walk.specs.Round.{wrapped, corner_of, edge_of}
use Rattle.walk.proofs.Wrap.{wrapped_below, wrapped_past}
use Rattle.stored.specs.Stored.{Floor, Polygon, unused, corner, corner_count, corner_after, polygon, vertex, edge}
use Rattle.stored.proofs.Records.{corner_beyond}

-- ---- behind the last corner

module _ (q : Polygon) where
  pub behind_is_unused : eqb (corner q (corner_count q)) unused ≡ true
  unfolding corner_count
  behind_is_unused = go (dec_lt (first (length q.corners) (λ i. eqb (corner q i) unused)) (length q.corners))
    where
      go : Dec (first (length q.corners) (λ i. eqb (corner q i) unused) < length q.corners)
          → eqb (corner q (first (length q.corners) (λ i. eqb (corner q i) unused))) unused ≡ true
      go (yes l) = first_at (length q.corners) (λ i. eqb (corner q i) unused) l
      go (no l) = eq-eqb _ _ (corner_beyond q _ (omega arith))

  pub corner_is_used : (i : ℕ) → i < corner_count q → eqb (corner q i) unused ≡ false
  unfolding corner_count
  corner_is_used i l = first_before (length q.corners) (λ i. eqb (corner q i) unused) i l

  pub after_the_last : (i : ℕ) → i + 1 ≡ corner_count q → corner_after q i ≡ corner q 0
  unfolding corner_after
  after_the_last i e = rw (e, behind_is_unused)

  pub after_another : (i : ℕ) → i + 1 < corner_count q → corner_after q i ≡ corner q (i + 1)
  unfolding corner_after
  after_another i l = rw (corner_is_used (i + 1) l)

-- ---- the edges of the list are the polygon's

module _ (f : Floor) (p : ℕ) where
  abbrev q : Polygon
  q = polygon f p

  abbrev corners : List Point
  corners = table (corner_count q) (λ i. vertex f (corner q i))

  pub as_many_corners : length corners ≡ corner_count q
  as_many_corners = length_table (corner_count q) (λ i. vertex f (corner q i))

  corner_in_list : (i : ℕ) → i < corner_count q → corner_of corners i ≡ vertex f (corner q i)
  unfolding corner_of
  corner_in_list i l = get_or_table (corner_count q) (λ i. vertex f (corner q i)) i _ l

  next_in_list : (i : ℕ) → i < corner_count q → corner_of corners (wrapped (length corners) (i + 1)) ≡ vertex f (corner_after q i)
  next_in_list i l = go (dec_lt (i + 1) (corner_count q))
    where
      go : Dec (i + 1 < corner_count q) → corner_of corners (wrapped (length corners) (i + 1)) ≡ vertex f (corner_after q i)
      go (yes m) = rw (as_many_corners, wrapped_below (corner_count q) (i + 1) m, after_another q i m) (corner_in_list (i + 1) m)
      go (no m) =
          let e : i + 1 ≡ corner_count q = omega arith in
          let z : i + 1 - corner_count q ≡ 0 = omega arith in
          rw (as_many_corners, wrapped_past (corner_count q) (i + 1) (omega arith), z, after_the_last q i e) (corner_in_list 0 (omega arith))

  pub edge_in_list : (i : ℕ) → i < corner_count q → edge f p i ≡ edge_of corners i
  unfolding edge edge_of
  edge_in_list i l = rw (corner_in_list i l, next_in_list i l)

-- ---- a table from its front

unfoldable pub from {ℓ} : {A : Type ℓ} → (ℕ → A) → ℕ → ℕ → List A
from g i zero = []
from g i (suc k) = g i ∷ from g (suc i) k

pub table_from {ℓ} : {A : Type ℓ} (g : ℕ → A) (i k : ℕ) → table (i + k) g ≡ table i g ++ from g i k
unfolding from table
table_from g i zero =
    let e : i + 0 ≡ i = omega arith in
    ap (λ (n : ℕ). table n g) e ∙ sym (append-nil (table i g))
table_from g i (suc k) =
    let e : i + suc k ≡ suc i + k = omega arith in
    ap (λ (n : ℕ). table n g) e ∙ table_from g (suc i) k ∙ append_assoc (table i g) (g i ∷ []) (from g (suc i) k)

pub table_is_from {ℓ} : {A : Type ℓ} (n : ℕ) (g : ℕ → A) → table n g ≡ from g 0 n
unfolding table
table_is_from n g =
    let e : 0 + n ≡ n = omega arith in
    ap (λ (k : ℕ). table k g) (sym e) ∙ table_from g 0 n
