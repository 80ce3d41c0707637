-- Where a record's words are, and that they are inside: said once for any number of slots. Assumes nothing.
use Prim.Native.Nat.{ℕ, ◌+◌, ◌-◌, ◌*◌, ◌/◌, ◌≤◌, ◌<◌}
use native.Mathlib.Nat.{le_trans, mul-le-mul_right, div-mul-le_self}
use native.Mathlib.Omega.{arith}
use native.Mathlib.Decide.{dec_lt}
use mathlib.Core.Path.{◌≡◌, refl, sym, ◌∙◌, subst}
use mathlib.Core.Bool.{Bool, true, false, not, cond}
use mathlib.Core.List.{List, [], ◌++◌}
use borrow.Author.Tests.{eqb-true, eqb-false, eq-eqb, ne_eqb}
use lib.Dec.{T, eqb}
use lib.ListN.{length, get_or, get_or-eq_default, get_or-append}
use lib.Seq.{get_or-append_right}
use Rattle.std.specs.Prelude.{Some, None}
use Rattle.std.proofs.lemmas.List.{get_or-append-add}
use Rattle.std.proofs.lemmas.Option.{none-some, same_Some}
use Rattle.word.specs.Word.{word_at}
use Rattle.counts.proofs.Laws.{length_table, get_or_table, first_le, first_at, first_below}
use Rattle.point.specs.Point.{plus_of}
use Rattle.plan.specs.Plan.{most_slots, slots_in, polygon_count_in}
use Rattle.stored.specs.Stored.{Polygon, unused, origin, vertex_at, slot_at, polygon_at, vertices_of, polygons_of, corner, neighbour, across, corner_count}
use Rattle.stored.specs.Stored.{polygon_in, vertex_in, record_in, polygons_in, Lies, PolygonsPlanned}

-- record p is inside: as many bytes as its size stand from p times the size on
whole : (L d p : ℕ) → p < L / d → (p + 1) * d ≤ L
whole L d p h = let g : p + 1 ≤ L / d = omega arith in le_trans (mul-le-mul_right d g) (div-mul-le_self L d)

pub vertex_inside : (L v : ℕ) → v < L / 8 → v * 8 + 8 ≤ L
vertex_inside L v h = omega arith

module _ (L s p i : ℕ) (listed : p < L / (s * 8)) (slot : i < s + s) where
  pub slot_within : p * (s * 8) + i * 4 + 4 ≤ L
  slot_within = omega (arith, whole L (s * 8) p listed)

module _ (s : ℕ) (bytes : List ℕ) (p : ℕ) where
  pub corner_slots : length (polygon_at s bytes p).corners ≡ s
  unfolding polygon_at
  corner_slots = length_table s (slot_at s bytes p)

  pub neighbour_slots : length (polygon_at s bytes p).neighbours ≡ s
  unfolding polygon_at
  neighbour_slots = length_table s (λ k. slot_at s bytes p (s + k))

  -- as many as was read off a plan
  pub slots_told : {read : ℕ} → read ≡ s → s ≤ most_slots
      → (read ≡ length (polygon_at s bytes p).corners) × (read ≡ length (polygon_at s bytes p).neighbours) × (read ≤ most_slots)
  slots_told e few = (e ∙ sym corner_slots, e ∙ sym neighbour_slots, rw e few)

  module _ (i : ℕ) where
    pub corner_read : i < s → corner (polygon_at s bytes p) i ≡ slot_at s bytes p i
    unfolding corner polygon_at
    corner_read h = get_or_table s (slot_at s bytes p) i unused h

    pub neighbour_read : i < s → neighbour (polygon_at s bytes p) i ≡ slot_at s bytes p (s + i)
    unfolding neighbour polygon_at
    neighbour_read h = get_or_table s (λ k. slot_at s bytes p (s + k)) i unused h

  module _ (i : ℕ) where
    -- the corners' slots, and then the neighbours'
    slot_read : i < s + s → get_or ((polygon_at s bytes p).corners ++ (polygon_at s bytes p).neighbours) i unused ≡ slot_at s bytes p i
    unfolding corner neighbour
    slot_read h = go (dec_lt i s)
      where
        q : Polygon
        q = polygon_at s bytes p

        go : Dec (i < s) → get_or (q.corners ++ q.neighbours) i unused ≡ slot_at s bytes p i
        go (yes l) = get_or-append q.corners q.neighbours unused i (omega (arith, l, corner_slots)) ∙ corner_read i l
        go (no l) =
            let e : s + (i - s) ≡ i = omega (arith, l) in
            get_or-append_right q.corners q.neighbours i unused (omega (arith, l, corner_slots)) ∙ rw corner_slots
            (subst (λ (k : ℕ). neighbour q (i - s) ≡ slot_at s bytes p k) e (neighbour_read (i - s) (omega (arith, l, h))))

-- by the number of slots that was read off a plan
module _ {read s : ℕ} (e : read ≡ s) where
  pub neighbour_read_by : (bytes : List ℕ) (p i : ℕ) {r : ℕ} → i < s → r ≡ slot_at s bytes p (read + i) → r ≡ neighbour (polygon_at s bytes p) i
  neighbour_read_by bytes p i {r} h given = subst (λ (k : ℕ). r ≡ slot_at s bytes p (k + i)) e given ∙ sym (neighbour_read s bytes p i h)

-- of the polygon that a record stands for, by that number
module _ (s : ℕ) (bytes : List ℕ) (p : ℕ) {q : Polygon} (stands : polygon_at s bytes p ≡ q) {read : ℕ} (e : read ≡ s) {i : ℕ}
    (h : i < length q.corners + length q.neighbours) where
  slot_here : i < s + s
  slot_here =
      let l : i < length (polygon_at s bytes p).corners + length (polygon_at s bytes p).neighbours = rw stands h in
      omega (arith, l, corner_slots s bytes p, neighbour_slots s bytes p)

  pub slot_within_by : p < length bytes / (s * 8) → p * (read * 8) + i * 4 + 4 ≤ length bytes
  slot_within_by listed = subst (λ (k : ℕ). p * (k * 8) + i * 4 + 4 ≤ length bytes) (sym e) (slot_within (length bytes) s p i listed slot_here)

  pub slot_read_by : {r : ℕ} → r ≡ word_at bytes (p * (read * 8) + i * 4) → r ≡ get_or (q.corners ++ q.neighbours) i unused
  unfolding slot_at
  slot_read_by {r} given =
      rw (← stands)
      (subst (λ (k : ℕ). r ≡ word_at bytes (p * (k * 8) + i * 4)) e given ∙ sym (slot_read s bytes p i slot_here))

-- ---- a polygon

module _ (q : Polygon) where
  -- the corners' slots come first
  pub corner_slot : (i : ℕ) → i < length q.corners → get_or (q.corners ++ q.neighbours) i unused ≡ corner q i
  unfolding corner
  corner_slot i l = get_or-append q.corners q.neighbours unused i l

  -- and the neighbours' come after them
  pub neighbour_slot : (i : ℕ) → get_or (q.corners ++ q.neighbours) (length q.corners + i) unused ≡ neighbour q i
  unfolding neighbour
  neighbour_slot i = get_or-append-add q.corners q.neighbours i unused

  pub neighbour_slot_by : {read : ℕ} → read ≡ length q.corners → (i : ℕ) → {r : ℕ} → r ≡ get_or (q.corners ++ q.neighbours) (read + i) unused
      → r ≡ neighbour q i
  neighbour_slot_by e i {r} given =
      subst (λ (k : ℕ). r ≡ get_or (q.corners ++ q.neighbours) (k + i) unused) e given ∙ neighbour_slot i

  pub corner_beyond : (i : ℕ) → length q.corners ≤ i → corner q i ≡ unused
  unfolding corner
  corner_beyond i l = get_or-eq_default q.corners unused l

  -- a polygon has no more corners than slots
  pub count_slots : corner_count q ≤ length q.corners
  unfolding corner_count
  count_slots = first_le (length q.corners) (λ i. eqb (corner q i) unused)

  -- the corners end at an unused slot at the latest
  pub count_upto : (j : ℕ) → j < length q.corners → eqb (corner q j) unused ≡ true → corner_count q ≤ j
  unfolding corner_count
  count_upto = first_below (length q.corners) (λ i. eqb (corner q i) unused)

  -- and behind those that are corners comes another where its slot is used
  pub count_on : (j : ℕ) → j < length q.corners → j ≤ corner_count q → eqb (corner q j) unused ≡ false → j < corner_count q
  unfolding corner_count
  count_on j l low used = go (dec_lt j (corner_count q))
    where
      end : corner_count q ≡ j → eqb (corner q j) unused ≡ true
      end e =
          subst (λ (k : ℕ). eqb (corner q k) unused ≡ true) e
          (first_at (length q.corners) (λ i. eqb (corner q i) unused) (omega (arith, e, l)))

      go : Dec (j < corner_count q) → j < corner_count q
      go (yes h) = h
      go (no h) = absurd (subst (λ (b : Bool). T (not b)) (sym used ∙ end (omega (arith, low, h))) tt)

-- ---- a loop from corner to corner

-- it has come to slot i, and all before it are corners
pub record Upto (q : Polygon) (slots i : ℕ) : Type 0 where
  pub all : slots ≡ length q.corners
  pub low : i ≤ corner_count q

pub upto_none : {q : Polygon} {slots : ℕ} → slots ≡ length q.corners → Upto q slots 0
upto_none e = record { all = e; low = omega arith }

module _ {q : Polygon} {slots i : ℕ} (h : Upto q slots i) where
  pub within_slots : i ≤ length q.corners
  within_slots = omega (arith, count_slots q, h.low)

  -- the slots are all
  pub ends_with_slots : slots ≤ i → corner_count q ≡ i
  ends_with_slots l = omega (arith, count_slots q, l, h.all, h.low)

  pub all_slots : slots ≤ i → (slots ≡ corner_count q) × (slots ≤ length q.corners)
  all_slots l = (omega (arith, count_slots q, l, h.all, h.low), omega (arith, h.all))

  module _ (l : i < slots) {x : ℕ} (read : x ≡ corner q i) where
    -- it is unused
    pub ends_here : x ≡ unused → corner_count q ≡ i
    ends_here e =
        let end = count_upto q i (omega (arith, l, h.all)) (rw (← read, eq-eqb _ _ e)) in
        omega (arith, end, h.low)

    -- it is a corner
    pub goes_on : (x ≡ unused → ⊥) → i < corner_count q
    goes_on e = count_on q i (omega (arith, l, h.all)) h.low (rw (← read, ne_eqb _ _ e))

    pub upto_more : (x ≡ unused → ⊥) → Upto q slots (i + 1)
    upto_more e = let on = goes_on e in record { all = h.all; low = omega (arith, on) }

-- ---- what is across an edge

module _ (q : Polygon) (i : ℕ) where
  pub across_none : across q i ≡ None → neighbour q i ≡ unused
  across_none e = go (eqb (neighbour q i) unused) refl e
    where
      go : (b : Bool) → eqb (neighbour q i) unused ≡ b → cond b None (Some (neighbour q i)) ≡ None → neighbour q i ≡ unused
      go true t _ = eqb-true (neighbour q i) unused t
      go false t e = absurd (none-some (neighbour q i) (sym e))

  pub across_some : {x : ℕ} → across q i ≡ Some x → (neighbour q i ≡ x) × (x ≡ unused → ⊥)
  across_some {x} e = go (eqb (neighbour q i) unused) refl e
    where
      go : (b : Bool) → eqb (neighbour q i) unused ≡ b → cond b None (Some (neighbour q i)) ≡ Some x → (neighbour q i ≡ x) × (x ≡ unused → ⊥)
      go true t e = absurd (none-some x e)
      go false t e =
          let same : neighbour q i ≡ x = same_Some (neighbour q i) x e in
          (same, λ u. eqb-false (neighbour q i) unused t (same ∙ u))

-- ---- what the lists stand for

module _ (s : ℕ) (ps : List ℕ) where
  pub polygon_count_lem : length (polygons_of s ps) ≡ length ps / (s * 8)
  unfolding polygons_of
  polygon_count_lem = length_table (length ps / (s * 8)) (polygon_at s ps)

  pub polygon_is : (p : ℕ) → p < length ps / (s * 8) → polygon_in (polygons_of s ps) p ≡ polygon_at s ps p
  unfolding polygons_of polygon_in
  polygon_is p h = get_or_table (length ps / (s * 8)) (polygon_at s ps) p (record { corners = []; neighbours = [] }) h

module _ (vs : List ℕ) where
  pub vertex_count_lem : length (vertices_of vs) ≡ length vs / 8
  unfolding vertices_of
  vertex_count_lem = length_table (length vs / 8) (vertex_at vs)

  pub vertex_is : (v : ℕ) → v < length vs / 8 → get_or (vertices_of vs) v origin ≡ vertex_at vs v
  unfolding vertices_of
  vertex_is v h = get_or_table (length vs / 8) (vertex_at vs) v origin h

  -- as it is used
  pub vertex_used : (v : ℕ) → v < length vs / 8 → vertex_in (vertices_of vs) v ≡ plus_of (vertex_at vs v) origin
  unfolding vertex_in
  vertex_used v h = rw (vertex_is v h)

-- ---- by a plan

-- a record that was read has as many slots as the plan says
pub record_slots : (plan ps : List ℕ) (p : ℕ) {q : Polygon} → q ≡ record_in plan ps p → length q.corners ≡ slots_in plan
record_slots plan ps p e = rw e (corner_slots (slots_in plan) ps p)

module _ {plan ps : List ℕ} (planned : PolygonsPlanned plan ps) where
  pub lies : (p : ℕ) → p < polygon_count_in plan → Lies plan ps p
  lies p h = (planned.few_slots, subst (λ (n : ℕ). p < n) planned.counted h)

  -- the polygon itself, by its record
  pub polygon_read : (p : ℕ) → p < polygon_count_in plan → polygon_in (polygons_in plan ps) p ≡ record_in plan ps p
  polygon_read p h = polygon_is (slots_in plan) ps p (lies p h).1

  pub polygons_counted : length (polygons_in plan ps) ≡ polygon_count_in plan
  polygons_counted = polygon_count_lem (slots_in plan) ps ∙ sym planned.counted
