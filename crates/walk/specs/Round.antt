-- Round a polygon, as document 01 has it under "The walk": each edge but the entry edge in its turn, the kind going from one to the next. Rests on specs/Walk.
-- Assumes nothing.
use Rattle.std.specs.Prelude.{ℕ, zero, suc, ◌+◌, ◌-◌, ◌≤◌, ◌<◌, ◌≡◌, cond, List, [], ◌∷◌, ◌++◌, map, ltb, length, get_or}
use Rattle.std.specs.Float.{nan}
use Rattle.point.specs.declared.Point.{Point}
use Rattle.point.specs.declared.Segment.{Segment}
use Rattle.point.specs.Point.{point_of}
use Rattle.cut.specs.declared.SuccessorType.{SuccessorType}
use Rattle.cut.specs.declared.SuccessorType.TheVariants.{RightNonObservable}
use Rattle.walk.specs.declared.Part.{Part}
use Rattle.walk.specs.declared.Successor.{Successor}
use Rattle.walk.specs.Walk.{walk_edge_of}

-- ---- edges

-- a number that has run past the last of n, taken up again from the first
unfoldable pub wrapped : ℕ → ℕ → ℕ
wrapped n i = cond (ltb i n) i (i - n)

-- a corner, and NaN for one that is not there
unfoldable pub corner_of : List Point → ℕ → Point
corner_of corners i = get_or corners i (point_of nan nan)

-- 01, The floor: "Edge i runs from corner i to corner i+1, cyclically."
unfoldable pub edge_of : List Point → ℕ → Segment
edge_of corners i = (corner_of corners i, corner_of corners (wrapped (length corners) (i + 1)))

-- the k-th edge after the entry edge, of n: for i in right_index..=left_index { polygon.circular_edge(i) }
unfoldable pub after_entry : ℕ → ℕ → ℕ → ℕ
after_entry n entry k = wrapped n (entry + 1 + k)

-- k edges from the i-th after the entry edge on
unfoldable pub edges_from : ℕ → ℕ → ℕ → ℕ → List ℕ
edges_from n entry i zero = []
edges_from n entry i (suc k) = after_entry n entry i ∷ edges_from n entry (suc i) k

-- 01, The walk: "It begins after the entry edge and visits the n − 1 others once."
unfoldable pub others : ℕ → ℕ → List ℕ
others n entry = edges_from n entry 0 (n - 1)

-- the same sentence of any list of edges, said without a wrap: proofs/Laws has it of `others`
pub record VisitsTheOthersOnce (n entry : ℕ) (visited : List ℕ) : Type 0 where
  pub begins_after : 2 ≤ n → get_or visited 0 0 ≡ wrapped n (entry + 1)
  pub as_many : length visited ≡ n - 1
  pub others_only : (k : ℕ) → k < length visited → (get_or visited k 0 < n) × (get_or visited k 0 ≡ entry → ⊥)
  pub each : (i : ℕ) → i < n → (i ≡ entry → ⊥) → (k : ℕ) × (k < length visited) × (get_or visited k 0 ≡ i)
  pub none_twice : (j k : ℕ) → j < k → k < length visited → get_or visited j 0 ≡ get_or visited k 0 → ⊥

-- ---- the walk

-- an interval of an edge, by the edge's number
abbrev pub successors_on : ℕ → List Part → List Successor
successors_on i parts = map (λ part. record { edge = i; part = part }) parts

-- one edge after the other, each with the kind that the last one left
unfoldable pub walk_of : Point → Segment → List Point → SuccessorType → List ℕ → List Successor
walk_of root interval corners kind [] = []
walk_of root interval corners kind (i ∷ is) =
    let walk = walk_edge_of root interval (edge_of corners i) kind in
    successors_on i walk.parts ++ walk_of root interval corners walk.kind is

-- let mut ty = SuccessorType::RightNonObservable;
unfoldable pub successors_of : Point → Segment → List Point → ℕ → List Successor
successors_of root interval corners entry = walk_of root interval corners RightNonObservable (others (length corners) entry)
