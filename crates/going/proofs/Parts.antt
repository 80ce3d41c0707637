-- The steps over the parts of one edge, from one part on. Rests on proofs/Left. Assumes nothing.
use Prim.Native.Nat.{ℕ, ◌+◌, ◌≤◌, ◌<◌}
use native.Mathlib.Numerals.{add-one}
use mathlib.Core.Path.{◌≡◌}
use mathlib.Core.List.{List, []}
use lib.ListN.{drop}
use Rattle.walk.specs.declared.Walked.{Walked}
use Rattle.walk.specs.declared.Successor.{Successor}
use Rattle.walk.specs.Walk.{parts_of, part_at}
use Rattle.walk.specs.Round.{successors_on}
use Rattle.stored.specs.Stored.{Floor}
use Rattle.route.specs.declared.Step.{Step}
use Rattle.steps.specs.declared.Node.{Node}
use Rattle.steps.specs.Steps.{and_then, step_of, steps_over}
use Rattle.going.specs.Going.{Yielded}
use Rattle.going.proofs.Left.{next_part, no_part_lem}

-- from the k-th part on
abbrev pub from_part : Floor → Node → ℕ → Walked → ℕ → List Step
from_part f node edge walked k = steps_over f node (successors_on edge (drop k (parts_of walked)))

abbrev pub successor_at : ℕ → Walked → ℕ → Successor
successor_at edge walked k = record { edge = edge; part = part_at walked.parts k }

module _ (f : Floor) (node : Node) (edge : ℕ) (walked : Walked) (yielded : Yielded walked) (k : ℕ) where
  pub from_next : k < walked.count
      → from_part f node edge walked k ≡ and_then (step_of f node (successor_at edge walked k)) (from_part f node edge walked (k + 1))
  unfolding steps_over
  from_next l = rw (next_part walked yielded k l, add-one k)

  pub from_none : walked.count ≤ k → from_part f node edge walked k ≡ []
  unfolding steps_over
  from_none l = rw (no_part_lem walked yielded k l)
