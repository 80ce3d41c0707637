-- What is laid is read, and marking a vertex changes its bit alone. Assumes nothing.
use Prim.Native.Nat.{ℕ, suc, ◌+◌, ◌-◌, ◌/◌, ◌%◌, ◌^◌, ◌<◌}
use native.Mathlib.Nat.{one-mul, zero-div, div-eq_of_lt}
use native.Mathlib.Decide.{dec_lt}
use native.Mathlib.Omega.{arith}
use mathlib.Core.Path.{◌≡◌, refl, sym}
use mathlib.Core.Bool.{Bool, true, false, cond}
use mathlib.Core.List.{List}
use borrow.Author.Tests.{eqb-true, eqb-false}
use lib.Bits.{bit_or, or_shr, or_step, shifted_even}
use lib.Dec.{eqb}
use lib.ListN.{length, get_or, set, length-set, replicate, get_or-replicate}
use lib.Pow.{pow-add, pow-lt, shl-shr}
use lib.Seq.{get_or-set_same, get_or-set_other}
use Rattle.plan.specs.Plan.{plan_words, slots_in, vertex_count_in, polygon_count_in, is_marked, marked, laid}

-- ---- laid

module _ (slots vertices polygons : ℕ) where
  pub laid_slots : slots_in (laid slots vertices polygons) ≡ slots
  unfolding slots_in laid
  laid_slots = refl

  pub laid_vertices : vertex_count_in (laid slots vertices polygons) ≡ vertices
  unfolding vertex_count_in laid
  laid_vertices = refl

  pub laid_polygons : polygon_count_in (laid slots vertices polygons) ≡ polygons
  unfolding polygon_count_in laid
  laid_polygons = refl

  pub laid_length : length (laid slots vertices polygons) ≡ plan_words
  unfolding laid
  laid_length = refl

  -- no vertex is marked
  pub laid_unmarked : (v : ℕ) → v < 1024 → is_marked (laid slots vertices polygons) v ≡ false
  unfolding is_marked laid
  laid_unmarked v h =
      let w = 8 + v / 32 in
      let bare : List ℕ = replicate plan_words 0 in
      let zero_word : get_or bare w 0 ≡ 0 = get_or-replicate {A = ℕ} plan_words w 0 0 (omega (arith, h)) in
      let one = set bare 0 slots in
      let two = set one 1 1 in
      let three = set two 3 vertices in
      rw (
        get_or-set_other three 5 w polygons 0 (omega arith),
        get_or-set_other two 3 w vertices 0 (omega arith),
        get_or-set_other one 1 w 1 0 (omega arith),
        get_or-set_other bare 0 w slots 0 (omega arith),
        zero_word,
        zero-div (2 ^ (v % 32)),
      )

-- ---- marked

module _ (plan : List ℕ) (v : ℕ) where
  pub marked_slots : slots_in (marked plan v) ≡ slots_in plan
  unfolding slots_in marked
  marked_slots = get_or-set_other plan (8 + v / 32) 0 (bit_or (get_or plan (8 + v / 32) 0) (2 ^ (v % 32))) 0 (omega arith)

  pub marked_vertices : vertex_count_in (marked plan v) ≡ vertex_count_in plan
  unfolding vertex_count_in marked
  marked_vertices = get_or-set_other plan (8 + v / 32) 3 (bit_or (get_or plan (8 + v / 32) 0) (2 ^ (v % 32))) 0 (omega arith)

  pub marked_polygons : polygon_count_in (marked plan v) ≡ polygon_count_in plan
  unfolding polygon_count_in marked
  marked_polygons = get_or-set_other plan (8 + v / 32) 5 (bit_or (get_or plan (8 + v / 32) 0) (2 ^ (v % 32))) 0 (omega arith)

  pub marked_length : length (marked plan v) ≡ length plan
  unfolding marked
  marked_length = length-set plan (8 + v / 32) (bit_or (get_or plan (8 + v / 32) 0) (2 ^ (v % 32)))

-- ---- one bit of a word

-- a power of two has no other bit than its own
other_bit : (i j : ℕ) → (i ≡ j → ⊥) → 2 ^ i / 2 ^ j % 2 ≡ 0
other_bit i j ne = go (dec_lt i j)
  where
    above : (k : ℕ) → i ≡ suc k + j → 2 ^ i / 2 ^ j % 2 ≡ 0
    above k e = rw (e, pow-add 2 (suc k) j, shl-shr (2 ^ suc k) j) (rw (one-mul (2 ^ suc k)) at (shifted_even 1 k))

    go : Dec (i < j) → 2 ^ i / 2 ^ j % 2 ≡ 0
    go (yes h) = rw (div-eq_of_lt (pow-lt h))
    go (no h) = above (i - suc j) (omega (arith, ne))

own_bit : (x i : ℕ) → bit_or x (2 ^ i) / 2 ^ i % 2 ≡ 1
own_bit x i =
    let one : 2 ^ i / 2 ^ i ≡ 1 = rw (one-mul (2 ^ i)) at (shl-shr 1 i) in
    rw (or_shr x (2 ^ i) i, one, or_step (x / 2 ^ i) 1) (omega arith)

kept_bit : (x i j : ℕ) → (i ≡ j → ⊥) → bit_or x (2 ^ i) / 2 ^ j % 2 ≡ x / 2 ^ j % 2
kept_bit x i j ne = rw (or_shr x (2 ^ i) j, or_step (x / 2 ^ j) (2 ^ i / 2 ^ j), other_bit i j ne) (omega arith)

-- a vertex that is marked now was marked before, or is the one
pub marked_at : (l : List ℕ) (i v : ℕ) → 8 + v / 32 < length l → is_marked (marked l i) v ≡ cond (eqb i v) true (is_marked l v)
unfolding is_marked marked
marked_at l i v h = go (eqb i v) refl
  where
    apart : (i ≡ v → ⊥) → (b : Bool) → eqb (8 + i / 32) (8 + v / 32) ≡ b
        → get_or (set l (8 + i / 32) (bit_or (get_or l (8 + i / 32) 0) (2 ^ (i % 32)))) (8 + v / 32) 0 / 2 ^ (v % 32) % 2
        ≡ get_or l (8 + v / 32) 0 / 2 ^ (v % 32) % 2
    apart ne true e =
        let w = eqb-true (8 + i / 32) (8 + v / 32) e in
        rw (w, get_or-set_same l (8 + v / 32) (bit_or (get_or l (8 + v / 32) 0) (2 ^ (i % 32))) 0 h)
        (kept_bit (get_or l (8 + v / 32) 0) (i % 32) (v % 32) (λ p. ne (omega (arith, w, p))))
    apart ne false e =
        rw (get_or-set_other l (8 + i / 32) (8 + v / 32) (bit_or (get_or l (8 + i / 32) 0) (2 ^ (i % 32))) 0 (λ p. eqb-false (8 + i / 32) (8 + v / 32) e (sym p)))

    go : (b : Bool) → eqb i v ≡ b
        → eqb (get_or (set l (8 + i / 32) (bit_or (get_or l (8 + i / 32) 0) (2 ^ (i % 32)))) (8 + v / 32) 0 / 2 ^ (v % 32) % 2) 1
        ≡ cond b true (eqb (get_or l (8 + v / 32) 0 / 2 ^ (v % 32) % 2) 1)
    go true e =
        rw (
          eqb-true i v e,
          get_or-set_same l (8 + v / 32) (bit_or (get_or l (8 + v / 32) 0) (2 ^ (v % 32))) 0 h,
          own_bit (get_or l (8 + v / 32) 0) (v % 32),
        )
    go false e = rw (apart (eqb-false i v e) (eqb (8 + i / 32) (8 + v / 32)) refl)
