-- The walk round a polygon in turns, each by one edge: what the functions of `Round` say, and what a caller's loop has yielded or has left. Rests on
-- specs/Round. proofs/Turns has the laws. Assumes nothing.
use Rattle.std.specs.Prelude.{ℕ, zero, suc, ◌+◌, ◌-◌, Bool, List, [], ◌++◌, leb, length}
use Rattle.point.specs.declared.Point.{Point}
use Rattle.point.specs.declared.Segment.{Segment}
use Rattle.cut.specs.declared.SuccessorType.{SuccessorType}
use Rattle.cut.specs.declared.SuccessorType.TheVariants.{RightNonObservable}
use Rattle.walk.specs.declared.round.Round.{Round}
use Rattle.walk.specs.Walk.{Walk, walk_edge_of}
use Rattle.walk.specs.declared.Successor.{Successor}
use Rattle.walk.specs.Round.{edge_of, after_entry, edges_from, successors_on, walk_of}

-- ---- a round

unfoldable pub begin_of : ℕ → ℕ → Round
begin_of entry count = record { entry = entry; count = count; taken = 0; kind = RightNonObservable }

unfoldable pub is_over_of : Round → Bool
is_over_of round = leb round.count (round.taken + 1)

unfoldable pub edge_number_of : Round → ℕ
edge_number_of round = after_entry round.count round.entry round.taken

unfoldable pub next_of : Round → SuccessorType → Round
next_of round kind = record { entry = round.entry; count = round.count; taken = round.taken + 1; kind = kind }

-- ---- turns

-- a turn walks the round's edge; what it yields, and the round after it
unfoldable pub turn_of : Point → Segment → List Point → Round → Walk
turn_of root interval corners round = walk_edge_of root interval (edge_of corners (edge_number_of round)) round.kind

unfoldable pub yields_of : Point → Segment → List Point → Round → List Successor
yields_of root interval corners round = successors_on (edge_number_of round) (turn_of root interval corners round).parts

unfoldable pub turned_of : Point → Segment → List Point → Round → Round
turned_of root interval corners round = next_of round (turn_of root interval corners round).kind

-- after k turns: the round, and what was yielded
unfoldable pub round_after : Point → Segment → List Point → ℕ → ℕ → Round
round_after root interval corners entry zero = begin_of entry (length corners)
round_after root interval corners entry (suc k) = turned_of root interval corners (round_after root interval corners entry k)

unfoldable pub yielded_after : Point → Segment → List Point → ℕ → ℕ → List Successor
yielded_after root interval corners entry zero = []
yielded_after root interval corners entry (suc k) =
    yielded_after root interval corners entry k ++ yields_of root interval corners (round_after root interval corners entry k)

-- what a round has still to yield
unfoldable pub left_of : Point → Segment → List Point → Round → List Successor
left_of root interval corners round =
    walk_of root interval corners round.kind (edges_from round.count round.entry round.taken (round.count - 1 - round.taken))
