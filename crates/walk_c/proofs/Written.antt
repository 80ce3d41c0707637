-- What an edge's walk has written into words, by the array and the count that `walk_edge` gives. Rests on the laws of `walk`. Assumes nothing.
use Prim.Native.Nat.{ℕ, zero, suc, ◌≤◌, ◌<◌}
use mathlib.Core.Path.{◌≡◌, refl, ap}
use mathlib.Core.List.{List}
use native.Mathlib.Omega.{arith}
use lib.ListN.{length, set}
use Rattle.std.specs.Prelude.{Option, Some}
use Rattle.point.specs.declared.Point.{Point}
use Rattle.point.specs.declared.Segment.{Segment}
use Rattle.cut.specs.declared.SuccessorType.{SuccessorType}
use Rattle.walk.specs.declared.Part.{Part}
use Rattle.walk.specs.declared.Walked.{Walked}
use Rattle.walk.specs.Walk.{Walk, walk_edge_of, walked_of, part_at}
use Rattle.walk.proofs.Laws.{count_is_their_number, count_is_one_to_three, kind_is_the_walk's, part_is_at_its_place}
use Rattle.walk_c.specs.Walk.{kind_number, parts_written, words_of, walk_number, walk_written}

-- lists that agree up to k write the same k parts
same_written : (ps qs : List Part) (before : List ℕ) (k : ℕ) → ((i : ℕ) → i < k → part_at ps i ≡ part_at qs i)
    → parts_written ps k before ≡ parts_written qs k before
unfolding parts_written
same_written ps qs before zero same = refl
same_written ps qs before (suc k) same =
    rw (same_written ps qs before k (λ i h. same i (omega arith)), same k (omega arith))

module _ (root : Point) (interval edge : Segment) (kind : SuccessorType) {walked : Walked}
    (gave : walked ≡ walked_of (walk_edge_of root interval edge kind)) where
  abbrev walk : Walk
  walk = walk_edge_of root interval edge kind

  as_many : walked.count ≡ length walk.parts
  as_many = rw gave (count_is_their_number root interval edge kind)

  pub at_most_three : walked.count ≤ 3
  at_most_three = rw gave (count_is_one_to_three root interval edge kind).1

  module _ {asked : Option SuccessorType} (is : asked ≡ Some kind) where
    pub number_of_parts : walked.count ≡ walk_number root interval edge asked
    unfolding walk_number
    number_of_parts = rw is as_many

    pub written_parts : (before : List ℕ) → set (parts_written walked.parts walked.count before) 15 (kind_number walked.kind)
        ≡ walk_written root interval edge asked before
    unfolding walk_written words_of
    written_parts before =
        rw (is, gave, ← count_is_their_number root interval edge kind, kind_is_the_walk's root interval edge kind)
        (ap (λ (words : List ℕ). set words 15 (kind_number walk.kind))
        (same_written (walked_of walk).parts walk.parts before (walked_of walk).count (part_is_at_its_place root interval edge kind)))
