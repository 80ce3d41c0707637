-- The numbers of the walk's kinds, and what is written for an edge's intervals, where C calls the walk. Rests on the definitions of `walk`. Assumes nothing.
use Rattle.std.specs.Prelude.{ℕ, zero, suc, ◌*◌, cond, Option, Some, None, List, [], ◌∷◌, eqb, length, set}
use Rattle.std.specs.Float.{binary32}
use Rattle.std.specs.Float.Ieee.{to_bits}
use Rattle.std.proofs.lemmas.List.Edits.{sets}
use Rattle.point.specs.declared.Point.{Point}
use Rattle.point.specs.declared.Segment.{Segment}
use Rattle.cut.specs.declared.SuccessorType.{SuccessorType}
use Rattle.cut.specs.declared.SuccessorType.TheVariants.{LeftNonObservable, Observable, RightNonObservable}
use Rattle.walk.specs.declared.Part.{Part}
use Rattle.walk.specs.Walk.{Walk, walk_edge_of, part_at}

-- ---- kinds

-- the order of the enum
unfoldable pub kind_number : SuccessorType → ℕ
kind_number LeftNonObservable = 0
kind_number Observable = 1
kind_number RightNonObservable = 2

-- the kind that a number stands for, or none where it stands for no kind
unfoldable pub kind_asked_of : ℕ → Option SuccessorType
kind_asked_of number =
    cond (eqb number 0) (Some LeftNonObservable) (cond (eqb number 1) (Some Observable) (cond (eqb number 2) (Some RightNonObservable) None))

-- ---- the answer

-- the number of intervals, or 0 for a kind that is unknown
unfoldable pub walk_number : Point → Segment → Segment → Option SuccessorType → ℕ
walk_number root interval edge (Some kind) = length (walk_edge_of root interval edge kind).parts
walk_number root interval edge None = 0

-- ---- what is written

-- an interval is the bit patterns of its start's x and y and of its end's, and the number of its kind
unfoldable pub part_words : Part → List ℕ
part_words part =
    to_bits binary32 part.interval.0.x
    ∷ to_bits binary32 part.interval.0.y
    ∷ to_bits binary32 part.interval.1.x
    ∷ to_bits binary32 part.interval.1.y
    ∷ kind_number part.kind
    ∷ []

-- the first count parts, part i from word 5 i on
unfoldable pub parts_written : List Part → ℕ → List ℕ → List ℕ
parts_written parts zero before = before
parts_written parts (suc i) before = sets (parts_written parts i before) (5 * i) (part_words (part_at parts i))

-- all the parts, and the kind to go on with in word 15
unfoldable pub words_of : Walk → List ℕ → List ℕ
words_of walk before = set (parts_written walk.parts (length walk.parts) before) 15 (kind_number walk.kind)

unfoldable pub walk_written : Point → Segment → Segment → Option SuccessorType → List ℕ → List ℕ
walk_written root interval edge (Some kind) before = words_of (walk_edge_of root interval edge kind) before
walk_written root interval edge None before = before
