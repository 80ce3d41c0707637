-- The tests decide what document 01 says of a vertex, of a polygon's corners and of its links, both ways. Assumes nothing.
use Prim.Native.Nat.{ℕ, ◌+◌, ◌-◌, ◌/◌, ◌%◌, ◌≤◌, ◌<◌}
use native.Mathlib.Omega.{arith}
use mathlib.Core.Path.{◌≡◌, refl, ap, subst}
use mathlib.Core.Bool.{Bool, true, false, not, ◌&&◌, ◌||◌}
use mathlib.Core.List.{List}
use mathlib.Core.Logic.{◌↔◌, ◌⊎◌, inl, inr, ⊎_elim}
use borrow.Author.Tests.{leb-true, le-leb, eqb-true, eqb-false, eq-eqb, ne_eqb, ltb-true, lt-ltb, not-true}
use lib.Dec.{eqb, ltb}
use lib.ListN.{length}
use Rattle.counts.proofs.Laws.{some_at, some_true}
use Rattle.counts.proofs.Decides.{every_decides}
use Rattle.float.proofs.Tests.{and_true, or_true}
use Rattle.point.specs.declared.Point.{Point}
use Rattle.stored.specs.Stored.{Floor, Polygon, unused, corner, neighbour, corner_count, corner_after, polygon, is_listed}
use Rattle.faults.specs.Tests.{length_right, coordinate_right, point_right, rest_unused, unlike_earlier, distinct, corners_listed, corners_right}
use Rattle.faults.specs.Tests.{is_back, names_back, link_right, links_right}
use Rattle.faults.specs.Accepted.{InRange, Corners, Back, Links}

-- ---- tests that are joined

pub both : {A B : Type 0} {a b : Bool} → (a ≡ true ↔ A) → (b ≡ true ↔ B) → ((a && b) ≡ true ↔ A × B)
both {a = a} {b = b} d e = (
  (λ h. let t = and_true a b h in (d.0 t.0, e.0 t.1)),
  (λ h. rw (d.1 h.0, e.1 h.1)),
)

pub through : {A B : Type 0} {a : Bool} → (a ≡ true ↔ A) → (A → B) → (B → A) → (a ≡ true ↔ B)
through d f g = ((λ h. f (d.0 h)), (λ h. d.1 (g h)))

same : {a : Bool} → a ≡ true ↔ a ≡ true
same = ((λ h. h), (λ h. h))

pub equal : (m n : ℕ) → eqb m n ≡ true ↔ m ≡ n
equal m n = (eqb-true m n, eq-eqb m n)

-- ---- 2 and 3

pub length_decided : (size most : ℕ) (bytes : List ℕ)
    → length_right size most bytes ≡ true ↔ ((length bytes % size ≡ 0) × ((1 ≤ length bytes / size) × (length bytes / size ≤ most)))
unfolding length_right
length_decided size most bytes =
    let count = length bytes / size in
    both (equal (length bytes % size) 0) (both (leb-true 1 count, le-leb 1 count) (leb-true count most, le-leb count most))

-- ---- 4

pub point_decided : (p : Point) → point_right p ≡ true ↔ InRange p
unfolding point_right coordinate_right
point_decided p =
    through (both (both same same) (both same same)) (λ h. record { x_low = h.0.0; x_high = h.0.1; y_low = h.1.0; y_high = h.1.1 })
    (λ r. ((r.x_low, r.x_high), (r.y_low, r.y_high)))

-- ---- 5

pub rest_decided : (slot : ℕ → ℕ) (slots n : ℕ) → rest_unused slot slots n ≡ true ↔ ((i : ℕ) → n ≤ i → i < slots → slot i ≡ unused)
unfolding rest_unused
rest_decided slot slots n =
    through
    (every_decides (slots - n) (λ k. eqb (slot (n + k)) unused) (λ k. slot (n + k) ≡ unused)
    (λ k l. (eqb-true (slot (n + k)) unused, eq-eqb (slot (n + k)) unused)))
    (λ h i l u. subst (λ (v : ℕ). slot v ≡ unused) (again n i l) (h (i - n) (omega arith))) (λ h k l. h (n + k) (omega arith) (omega arith))
  where
    again : (n i : ℕ) → n ≤ i → n + (i - n) ≡ i
    again n i l = omega arith

differs : (a b : ℕ) → not (eqb a b) ≡ true ↔ (a ≡ b → ⊥)
differs a b = ((λ h. eqb-false a b (not-true (eqb a b) h)), (λ h. ap not (ne_eqb a b h)))

pub distinct_decided : (p : Polygon) → distinct p ≡ true ↔ ((i j : ℕ) → i < j → j < corner_count p → corner p i ≡ corner p j → ⊥)
unfolding distinct unlike_earlier
distinct_decided p =
    through
    (every_decides (corner_count p) (unlike_earlier p) (λ j. (i : ℕ) → i < j → corner p i ≡ corner p j → ⊥)
    (λ j l. every_decides j (λ i. not (eqb (corner p i) (corner p j))) (λ i. corner p i ≡ corner p j → ⊥) (λ i m. differs (corner p i) (corner p j))))
    (λ h i j l u. h j u i l) (λ h j u i l. h i j l u)

pub listed_decided : (n : ℕ) (p : Polygon) → corners_listed n p ≡ true ↔ ((i : ℕ) → i < corner_count p → corner p i < n)
unfolding corners_listed
listed_decided n p = every_decides (corner_count p) (λ i. ltb (corner p i) n) (λ i. corner p i < n) (λ i l. (ltb-true (corner p i) n, lt-ltb (corner p i) n))

pub corners_decided : (count : ℕ) (p : Polygon) → corners_right count p ≡ true ↔ Corners count p
unfolding corners_right
corners_decided count p =
    through
    (both (leb-true 3 (corner_count p), le-leb 3 (corner_count p))
    (both (rest_decided (corner p) (length p.corners) (corner_count p)) (both (distinct_decided p) (listed_decided count p))))
    (λ h. record { three = h.0; rest = h.1.0; distinct = h.1.1.0; listed = h.1.1.1 })
    (λ r. (r.three, (r.rest, (r.distinct, r.listed))))

-- ---- 6

back_decided : (q : Polygon) (p a b j : ℕ) → is_back q p a b j ≡ true ↔ ((corner q j ≡ b) × ((corner_after q j ≡ a) × (neighbour q j ≡ p)))
unfolding is_back
back_decided q p a b j = both (equal (corner q j) b) (both (equal (corner_after q j) a) (equal (neighbour q j) p))

module _ (f : Floor) (p i : ℕ) where
  q : ℕ
  q = neighbour (polygon f p) i

  -- "Q is another listed polygon with an edge (b,a) that names P"
  back_is : (not (eqb q p) && (is_listed f.polygons q && names_back (polygon f q) p (corner (polygon f p) i) (corner_after (polygon f p) i))) ≡ true
      ↔ Back f p i q
  unfolding is_listed names_back
  back_is =
      through
      (both (differs q p) (both ((ltb-true q (length f.polygons), lt-ltb q (length f.polygons))) same))
      (λ h.
      let s = some_at (corner_count (polygon f q)) (is_back (polygon f q) p (corner (polygon f p) i) (corner_after (polygon f p) i)) h.1.1 in
      let t = (back_decided (polygon f q) p (corner (polygon f p) i) (corner_after (polygon f p) i) s.0).0 s.2 in
      record { another = h.0; listed = h.1.0; place = s.0; in_place = s.1; starts = t.0; ends = t.1.0; names = t.1.1 })
      (λ r. (
        r.another,
        (
          r.listed,
          some_true (corner_count (polygon f q)) (is_back (polygon f q) p (corner (polygon f p) i) (corner_after (polygon f p) i)) r.place r.in_place
              ((back_decided (polygon f q) p (corner (polygon f p) i) (corner_after (polygon f p) i) r.place).1 (r.starts, (r.ends, r.names))),
        ),
      ))

  pub link_decided : link_right f.polygons p i ≡ true ↔ ((neighbour (polygon f p) i ≡ unused) ⊎ Back f p i (neighbour (polygon f p) i))
  unfolding link_right q
  link_decided = (
    (λ h. ⊎_elim (λ e. inl (eqb-true q unused e)) (λ e. inr (back_is.0 e)) (or_true (eqb q unused) _ h)),
    (λ h. ⊎_elim (λ e. rw (eq-eqb q unused e)) (λ b. or_right (eqb q unused) _ (back_is.1 b)) h),
  )
    where
      or_right : (a b : Bool) → b ≡ true → (a || b) ≡ true
      or_right true b e = refl
      or_right false b e = e

pub links_decided : (f : Floor) (p : ℕ) → links_right f.polygons p ≡ true ↔ Links f p
unfolding links_right
links_decided f p =
    through
    (both
    (every_decides (corner_count (polygon f p)) (link_right f.polygons p)
    (λ i. (neighbour (polygon f p) i ≡ unused) ⊎ Back f p i (neighbour (polygon f p) i)) (λ i l. link_decided f p i))
    (rest_decided (neighbour (polygon f p)) (length (polygon f p).neighbours) (corner_count (polygon f p))))
    (λ h. record { linked = h.0; rest = h.1 })
    (λ r. (r.linked, r.rest))
