-- Each way through the tests is the definition's, by what the code has found out on it. Assumes nothing.
use Prim.Native.Nat.{ℕ, ◌+◌, ◌-◌, ◌≤◌, ◌<◌}
use native.Mathlib.Omega.{arith}
use mathlib.Core.Path.{◌≡◌, refl, sym, ap, ◌∙◌}
use mathlib.Core.Bool.{Bool, true, false, not}
use mathlib.Core.List.{List, ◌++◌}
use borrow.Author.Count.{below_none, below_more}
use borrow.Author.Tests.{le-leb, lt-leb, le-ltb, lt-ltb, eq-eqb, ne_eqb, not-true, not-false}
use lib.Dec.{leb, ltb, eqb}
use lib.ListN.{length, get_or}
use Rattle.point.specs.declared.Point.{Point}
use Rattle.point.proofs.Cases.{and_taken}
use Rattle.counts.specs.Counts.{every}
use Rattle.counts.proofs.Laws.{every_true, every_false, some_true, some_false}
use Rattle.plan.specs.Plan.{polygon_count_in}
use Rattle.stored.specs.Stored.{Polygon, unused, corner, neighbour, corner_count, corner_after, record_in, polygons_in, PolygonsPlanned}
use Rattle.stored.proofs.Records.{polygon_read, Upto, upto_none, ends_with_slots, ends_here, goes_on, upto_more}
use Rattle.faults.specs.Tests.{coordinate_right, point_right, rest_unused, unlike_earlier, distinct, corners_listed, corners_right}
use Rattle.faults.specs.Tests.{is_back, names_back, link_right, links_right}
use Rattle.faults.proofs.Rest.{unused_none, unused_all, rest_by_lem, rest_corners, rest_neighbours_by}

-- ---- a loop that ends at the first that is not so

-- those before i are so
pub record Passed (f : ℕ → Bool) (i n : ℕ) : Type 0 where
  pub low : i ≤ n
  pub so : (k : ℕ) → k < i → f k ≡ true

pub passed_none : {f : ℕ → Bool} {n : ℕ} → Passed f 0 n
passed_none = record { low = omega arith; so = below_none _ }

module _ {f : ℕ → Bool} {i n : ℕ} (h : Passed f i n) where
  pub passed_all : n ≤ i → true ≡ every n f
  passed_all l = sym (every_true n f (λ k m. h.so k (omega arith)))

  module _ (l : i < n) where
    pub passed_more : f i ≡ true → Passed f (i + 1) n
    passed_more e = record { low = omega arith; so = below_more _ _ h.so e }

    pub passed_fails : f i ≡ false → false ≡ every n f
    passed_fails e = sym (every_false n f i l e)

-- what the test says of what it asks,
module _ {b a : Bool} (asked : b ≡ a) where
  pub was_so : not b ≡ false → a ≡ true
  was_so e = sym asked ∙ not-false b e

  pub was_not : not b ≡ true → a ≡ false
  was_not e = sym asked ∙ not-true b e

-- where that was read first
pub below_read : {b : Bool} {x y : ℕ} (n : ℕ) → b ≡ ltb x n → x ≡ y → b ≡ ltb y n
below_read n e r = e ∙ ap (λ k. ltb k n) r

pub unused_read : {b : Bool} {x y : ℕ} → b ≡ eqb x unused → x ≡ y → b ≡ eqb y unused
unused_read e r = e ∙ ap (λ k. eqb k unused) r

-- ---- 4

module _ (p : Point) {b : Bool} (x : b ≡ coordinate_right p.x) where
  pub point_wrong : b ≡ false → b ≡ point_right p
  unfolding point_right
  point_wrong e = rw (← x, e)

  pub point_by_y : b ≡ true → {c : Bool} → c ≡ coordinate_right p.y → c ≡ point_right p
  unfolding point_right
  point_by_y e y = rw (← x, e, ← y)

-- ---- 5

-- of the slots of one kind
pub rest_told : (slot : ℕ → ℕ) (n : ℕ) {read s : ℕ} → read ≡ s → {b : Bool} → b ≡ every (read - n) (λ k. eqb (slot (n + k)) unused)
    → b ≡ rest_unused slot s n
rest_told slot n read e = e ∙ rest_by_lem slot n read

module _ (q : Polygon) (j : ℕ) where
  pub earlier_told : {b : Bool} → b ≡ every j (λ i. not (eqb (corner q i) (corner q j))) → b ≡ unlike_earlier q j
  unfolding unlike_earlier
  earlier_told e = e

  module _ {last : ℕ} (read_last : last ≡ corner q j) (i : ℕ) {x : ℕ} (read : x ≡ corner q i) where
    pub corners_alike_here : x ≡ last → not (eqb (corner q i) (corner q j)) ≡ false
    corners_alike_here e = rw (← read, ← read_last, eq-eqb _ _ e)

    pub corners_unlike_here : (x ≡ last → ⊥) → not (eqb (corner q i) (corner q j)) ≡ true
    corners_unlike_here e = rw (← read, ← read_last, ne_eqb _ _ e)

module _ (q : Polygon) {n : ℕ} (counted : n ≡ corner_count q) where
  -- a corner that was read
  pub listed_here : {count : ℕ} (i : ℕ) {x : ℕ} → x ≡ corner q i → x < count → ltb (corner q i) count ≡ true
  listed_here i read l = rw (← read) (lt-ltb _ _ l)

  pub unlisted_here : {count : ℕ} (i : ℕ) {x : ℕ} → x ≡ corner q i → count ≤ x → ltb (corner q i) count ≡ false
  unlisted_here i read l = rw (← read) (le-ltb _ _ l)

  pub listed_told : (count : ℕ) {b : Bool} → b ≡ every n (λ i. ltb (corner q i) count) → b ≡ corners_listed count q
  unfolding corners_listed
  listed_told count g = rw (← counted) g

  pub distinct_told : {b : Bool} → b ≡ every n (unlike_earlier q) → b ≡ distinct q
  unfolding distinct
  distinct_told e = rw (← counted) e

-- the number in a slot of a polygon's record, of the slots that begin at one
abbrev pub slot_from : Polygon → ℕ → ℕ → ℕ
slot_from q begin i = get_or (q.corners ++ q.neighbours) (begin + i) unused

module _ (q : Polygon) {n : ℕ} (counted : n ≡ corner_count q) (count : ℕ) where
  pub corners_few : n < 3 → leb 3 n ≡ corners_right count q
  unfolding corners_right
  corners_few l = rw (← counted, lt-leb _ _ l)

  module _ (l : 3 ≤ n) {a : Bool} (rest : a ≡ rest_unused (slot_from q 0) (length q.corners) n) where
    pub corners_behind : a ≡ false → a ≡ corners_right count q
    unfolding corners_right
    corners_behind e = rw (← counted, le-leb _ _ l, rest_corners _ _, ← rest, e)

    module _ (e : a ≡ true) {b : Bool} (unlike : b ≡ distinct q) where
      pub corners_alike : b ≡ false → b ≡ corners_right count q
      unfolding corners_right
      corners_alike g = rw (← counted, le-leb _ _ l, rest_corners _ _, ← rest, e, ← unlike, g)

      pub corners_by_numbers : b ≡ true → {c : Bool} → c ≡ corners_listed count q → c ≡ corners_right count q
      unfolding corners_right
      corners_by_numbers g h =
          rw (← counted) (and_taken _ _ (le-leb 3 _ l) (rw (rest_corners _ _, ← rest, e, ← unlike, g) h))

-- ---- 6

module _ (q : Polygon) (p a b j : ℕ) {x : ℕ} (begins : x ≡ corner q j) where
  pub begins_elsewhere : (x ≡ b → ⊥) → eqb x b ≡ is_back q p a b j
  unfolding is_back
  begins_elsewhere e = rw (← begins, ne_eqb _ _ e)

  module _ (e : x ≡ b) {y : ℕ} (ends : y ≡ corner_after q j) where
    pub ends_elsewhere : (y ≡ a → ⊥) → eqb y a ≡ is_back q p a b j
    unfolding is_back
    ends_elsewhere g = rw (← begins, eq-eqb _ _ e, ← ends, ne_eqb _ _ g)

    pub back_by_neighbour : y ≡ a → {z : ℕ} → z ≡ neighbour q j → eqb z p ≡ is_back q p a b j
    unfolding is_back
    back_by_neighbour g across = rw (← begins, eq-eqb _ _ e, ← ends, eq-eqb _ _ g, ← across) refl

-- up to slot j every slot of q is a corner's and no edge leads back
pub record NoneBack (q : Polygon) (p a b slots j : ℕ) : Type 0 where
  pub upto : Upto q slots j
  pub none : (k : ℕ) → k < j → is_back q p a b k ≡ false

pub none_yet : {q : Polygon} {p a b slots : ℕ} → slots ≡ length q.corners → NoneBack q p a b slots 0
none_yet e = record { upto = upto_none e; none = below_none _ }

module _ {q : Polygon} {p a b slots j : ℕ} (h : NoneBack q p a b slots j) where
  none_at_all : corner_count q ≡ j → false ≡ names_back q p a b
  unfolding names_back
  none_at_all e = sym (some_false _ _ (λ k m. h.none k (omega (arith, m, e))))

  pub back_of_none : slots ≤ j → false ≡ names_back q p a b
  back_of_none l = none_at_all (ends_with_slots h.upto l)

  module _ (l : j < slots) {x : ℕ} (read : x ≡ corner q j) where
    pub back_of_ended : x ≡ unused → false ≡ names_back q p a b
    back_of_ended e = none_at_all (ends_here h.upto l read e)

    module _ (e : x ≡ unused → ⊥) {r : Bool} (back : r ≡ is_back q p a b j) where
      pub back_here : r ≡ true → true ≡ names_back q p a b
      unfolding names_back
      back_here g = sym (some_true _ _ j (goes_on h.upto l read e) (sym back ∙ g))

      pub none_here : r ≡ false → NoneBack q p a b slots (j + 1)
      none_here g = record { upto = upto_more h.upto l read e; none = below_more _ _ h.none (sym back ∙ g) }

-- up to slot i every slot of p is a corner's and its link is right
pub record Linked (plan ps : List ℕ) (here : Polygon) (p slots i : ℕ) : Type 0 where
  pub upto : Upto here slots i
  pub right : (k : ℕ) → k < i → link_right (polygons_in plan ps) p k ≡ true

pub linked_yet : {plan ps : List ℕ} {here : Polygon} {p slots : ℕ} → slots ≡ length here.corners → Linked plan ps here p slots 0
linked_yet e = record { upto = upto_none e; right = below_none _ }

module _ {plan ps : List ℕ} {here : Polygon} {p slots i : ℕ} (h : Linked plan ps here p slots i) (planned : PolygonsPlanned plan ps)
    (listed : p < polygon_count_in plan) (at : here ≡ record_in plan ps p) (alike : slots ≡ length here.neighbours) where
  by_rest : corner_count here ≡ i → {b : Bool} → b ≡ rest_unused (slot_from here slots) (length here.corners) i
      → b ≡ links_right (polygons_in plan ps) p
  unfolding links_right
  by_rest e rest =
      rw (polygon_read planned p listed, ← at, e, every_true _ _ h.right, rest_neighbours_by _ h.upto.all alike _, ← rest)

  pub links_all : slots ≤ i → true ≡ links_right (polygons_in plan ps) p
  links_all l = by_rest (ends_with_slots h.upto l) (unused_all unused_none (omega (arith, l, h.upto.all)))

  module _ (l : i < slots) {x : ℕ} (read : x ≡ corner here i) where
    pub links_behind : x ≡ unused → {b : Bool} → b ≡ rest_unused (slot_from here slots) (length here.corners) i
        → b ≡ links_right (polygons_in plan ps) p
    links_behind e = by_rest (ends_here h.upto l read e)

    module _ (e : x ≡ unused → ⊥) {r : Bool} (asked : r ≡ link_right (polygons_in plan ps) p i) where
      pub links_wrong : not r ≡ true → false ≡ links_right (polygons_in plan ps) p
      unfolding links_right
      links_wrong g = rw (polygon_read planned p listed, ← at, every_false _ _ i (goes_on h.upto l read e) (was_not asked g))

      pub linked_more : not r ≡ false → Linked plan ps here p slots (i + 1)
      linked_more g = record { upto = upto_more h.upto l read e; right = below_more _ _ h.right (was_so asked g) }
