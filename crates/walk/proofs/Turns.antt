-- Taking turns with `Round` and `walk_edge`, from `begin` to `is_over`, yields exactly the successors of the walk. Two ways to say it of a caller's loop:
-- what was yielded after k turns, and what is left. Rests on specs/Round. Assumes nothing.
use Prim.Native.Nat.{ℕ, zero, suc, ◌+◌, ◌-◌, ◌≤◌, ◌<◌}
use mathlib.Core.Path.{◌≡◌, refl, sym, ap, ◌∙◌}
use mathlib.Core.Bool.{true, false}
use mathlib.Core.List.{List, [], ◌++◌, append_assoc, append-nil}
use native.Mathlib.Numerals.{add-one}
use native.Mathlib.Omega.{arith}
use borrow.Author.Tests.{leb-true, leb-false, le-leb, lt-leb}
use lib.ListN.{length}
use Rattle.point.specs.declared.Point.{Point}
use Rattle.point.specs.declared.Segment.{Segment}
use Rattle.walk.specs.declared.Walked.{Walked}
use Rattle.walk.specs.declared.round.Round.{Round}
use Rattle.walk.specs.Walk.{walked_of, walk_edge_of, parts_of}
use Rattle.walk.specs.Round.{edge_of, successors_on, edges_from, others, walk_of, successors_of}
use Rattle.walk.specs.Turns.{begin_of, is_over_of, edge_number_of, next_of, turn_of, yields_of, turned_of, round_after, yielded_after, left_of}
use Rattle.walk.proofs.Laws.{array_holds_the_parts, count_is_their_number, kind_is_the_walk's, another}

module _ (root : Point) (interval : Segment) (corners : List Point) where
  -- ---- what is left

  -- at the beginning, all of them
  pub left_at_begin : (entry : ℕ) → left_of root interval corners (begin_of entry (length corners)) ≡ successors_of root interval corners entry
  unfolding left_of begin_of successors_of others
  left_at_begin entry =
      let e : length corners - 1 - 0 ≡ length corners - 1 = omega arith in
      rw e

  -- when the round is over, none
  pub left_when_over : (round : Round) → is_over_of round ≡ true → left_of root interval corners round ≡ []
  unfolding left_of is_over_of walk_of edges_from
  left_when_over round over =
      let h = leb-true round.count (round.taken + 1) over in
      let e : round.count - 1 - round.taken ≡ 0 = omega arith in
      rw e

  -- before, what the turn yields, and what is left after it
  pub left_by_turn : (round : Round) → is_over_of round ≡ false
      → left_of root interval corners round ≡ yields_of root interval corners round ++ left_of root interval corners (turned_of root interval corners round)
  unfolding left_of is_over_of walk_of edges_from yields_of turned_of turn_of next_of edge_number_of
  left_by_turn round on =
      let h = leb-false round.count (round.taken + 1) on in
      let e : round.count - 1 - round.taken ≡ suc (round.count - 1 - suc round.taken) = omega arith in
      rw (e, add-one)

  -- ---- after k turns

  module _ (entry : ℕ) where
    -- one more turn, as the definitions have it
    pub round_after_more : (k : ℕ) → round_after root interval corners entry (suc k)
        ≡ turned_of root interval corners (round_after root interval corners entry k)
    unfolding round_after
    round_after_more k = refl

    pub yielded_after_more : (k : ℕ) → yielded_after root interval corners entry (suc k) ≡ yielded_after root interval corners entry k
        ++ yields_of root interval corners (round_after root interval corners entry k)
    unfolding yielded_after
    yielded_after_more k = refl

    pub entry_after : (k : ℕ) → (round_after root interval corners entry k).entry ≡ entry
    unfolding round_after begin_of turned_of next_of
    entry_after zero = refl
    entry_after (suc k) = entry_after k

    pub count_after : (k : ℕ) → (round_after root interval corners entry k).count ≡ length corners
    unfolding round_after begin_of turned_of next_of
    count_after zero = refl
    count_after (suc k) = count_after k

    pub taken_after : (k : ℕ) → (round_after root interval corners entry k).taken ≡ k
    unfolding round_after begin_of turned_of next_of
    taken_after zero = refl
    taken_after (suc k) = add-one _ ∙ ap suc (taken_after k)

    -- it is over after n − 1 turns, and not before
    pub over_after : (k : ℕ) → length corners ≤ suc k → is_over_of (round_after root interval corners entry k) ≡ true
    unfolding is_over_of
    over_after k h =
        let round = round_after root interval corners entry k in
        le-leb round.count (round.taken + 1) (omega (arith, count_after k, taken_after k))

    pub on_before : (k : ℕ) → suc k < length corners → is_over_of (round_after root interval corners entry k) ≡ false
    unfolding is_over_of
    on_before k h =
        let round = round_after root interval corners entry k in
        lt-leb round.count (round.taken + 1) (omega (arith, count_after k, taken_after k))

    -- what was yielded and what is left are the walk's successors
    pub yielded_and_left : (k : ℕ) → k ≤ length corners - 1
        → yielded_after root interval corners entry k ++ left_of root interval corners (round_after root interval corners entry k)
        ≡ successors_of root interval corners entry
    unfolding yielded_after round_after
    yielded_and_left zero h = left_at_begin entry
    yielded_and_left (suc k) h =
        rw (append_assoc, ← left_by_turn (round_after root interval corners entry k) (on_before k (omega arith)))
        (yielded_and_left k (omega arith))

    -- so all of them were yielded when it is over
    pub turns_yield_the_walk : yielded_after root interval corners entry (length corners - 1) ≡ successors_of root interval corners entry
    turns_yield_the_walk =
        let last = round_after root interval corners entry (length corners - 1) in
        let none : left_of root interval corners last ≡ [] = left_when_over last (over_after (length corners - 1) (omega arith)) in
        sym (append-nil _) ∙ (rw none at (yielded_and_left (length corners - 1) (omega arith)))

  -- ---- a turn by the code's own values

  -- the number that `edge` gives is that of another edge of the polygon
  module _ (round : Round) (listed : round.entry < round.count) (on : is_over_of round ≡ false) where
    pub edge_is_another : (edge_number_of round < round.count) × (edge_number_of round ≡ round.entry → ⊥)
    unfolding edge_number_of is_over_of
    edge_is_another =
        let h = leb-false round.count (round.taken + 1) on in
        another round.count round.entry listed round.taken (omega arith)

  -- i is what `edge` gives, edge the segment that a caller finds for it, walked what `walk_edge` gives, after what `next` gives
  module _ (round after : Round) (i : ℕ) (edge : Segment) (walked : Walked) (at : i ≡ edge_number_of round) (its : edge ≡ edge_of corners i)
      (gave : walked ≡ walked_of (walk_edge_of root interval edge round.kind)) (goes : after ≡ next_of round walked.kind) where
    pub turn_counts : walked.count ≡ length (parts_of walked)
    turn_counts = rw (gave, array_holds_the_parts root interval edge round.kind) (count_is_their_number root interval edge round.kind)

    pub turn_yields : yields_of root interval corners round ≡ successors_on i (parts_of walked)
    unfolding yields_of turn_of
    turn_yields = rw (← at, ← its, gave, array_holds_the_parts root interval edge round.kind)

    pub turn_goes_on : after ≡ turned_of root interval corners round
    unfolding turned_of turn_of
    turn_goes_on = rw (← at, ← its, goes, gave, kind_is_the_walk's root interval edge round.kind)

    -- what is left is what this turn yields and what is left after it
    pub turn_leaves : is_over_of round ≡ false → left_of root interval corners round ≡ successors_on i (parts_of walked) ++ left_of root interval corners after
    turn_leaves on = rw (← turn_yields, turn_goes_on) (left_by_turn round on)

    -- what was yielded after k turns, and this turn's, were yielded after one more
    pub turn_adds : (entry k : ℕ) → round ≡ round_after root interval corners entry k
        → yielded_after root interval corners entry (suc k) ≡ yielded_after root interval corners entry k ++ successors_on i (parts_of walked)
    unfolding yielded_after
    turn_adds entry k is = rw (← is, ← turn_yields)

    pub turn_is_one_more : (entry k : ℕ) → round ≡ round_after root interval corners entry k → after ≡ round_after root interval corners entry (suc k)
    unfolding round_after
    turn_is_one_more entry k is = rw (← is) turn_goes_on
