-- One edge of the walk, as document 01 has it under "The walk" and edges_between of polyanya's src/instance.rs has it in its lines, which stand above
-- what renders them. Rests on the definitions of `cut`. Assumes nothing. A part is the Rust's `Successor` without the edge. The contract of a function
-- cites the definition of its name with `Of` behind it; `part_of` is for `Part::new`.
use Rattle.std.specs.Prelude.{ℕ, Option, Some, None, List, [], ◌∷◌, ◌++◌, get_or, take}
use Rattle.std.specs.Float.{nan}
use Rattle.point.specs.declared.Point.{Point}
use Rattle.point.specs.declared.Segment.{Segment}
use Rattle.cut.specs.declared.SuccessorType.{SuccessorType}
use Rattle.cut.specs.declared.SuccessorType.TheVariants.{LeftNonObservable}
use Rattle.cut.specs.declared.Cut.{Cut}
use Rattle.cut.specs.Cut.{first_cut_of, second_cut_of}
use Rattle.walk.specs.declared.Part.{Part}
use Rattle.walk.specs.declared.Walked.{Walked}

-- ---- the parts of an edge

-- what an edge yields, in order, and the kind to go on with
pub record Walk : Type 0 where
  pub parts : List Part
  pub kind : SuccessorType

-- Successor { interval: (start, end), edge, ty }
unfoldable pub part_of : Point → Point → SuccessorType → Part
part_of start end kind = record { interval = (start, end); kind = kind }

-- end_intersection_p.unwrap_or(end_point)
abbrev pub cut_or : Option Point → Point → Point
cut_or (Some cut) end = cut
cut_or None end = end

-- a cut makes a part before it, from the start of the edge ..
abbrev pub before : Option Point → Point → SuccessorType → List Part
before (Some cut) start kind = part_of start cut kind ∷ []
before None start kind = []

-- .. or one behind it, to the end of the edge
abbrev pub behind : Option Point → Point → SuccessorType → List Part
behind (Some cut) end kind = part_of cut end kind ∷ []
behind None end kind = []

-- the first cut, where there is one, is start_point from then on
unfoldable pub left_of : Option Point → Segment → Segment
left_of at edge = (cut_or at edge.0, edge.1)

-- successors.push(Successor { interval: (start_point, end_intersection_p.unwrap_or(end_point)), .. }); and, with the kind that is next, what lies
-- behind the second cut
abbrev pub rest_by : Cut → Segment → SuccessorType → Walk
rest_by second edge kind = record {
  parts = part_of edge.0 (cut_or second.at edge.1) kind ∷ behind second.at edge.1 second.kind;
  kind = second.kind;
}

unfoldable pub rest_of : Segment → Segment → Segment → SuccessorType → Walk
rest_of left right edge kind = rest_by (second_cut_of left right edge kind) edge kind

-- the right ray is (node.root, node.interval.0), the left ray (node.root, node.interval.1)
unfoldable pub walk_edge_of : Point → Segment → Segment → SuccessorType → Walk
walk_edge_of root interval edge kind =
    let right : Segment = (root, interval.0) in
    let left : Segment = (root, interval.1) in
    let first = first_cut_of right edge kind in
    let rest = rest_of left right (left_of first.at edge) first.kind in
    record { parts = before first.at edge.0 kind ++ rest.parts; kind = rest.kind }

-- ---- in a fixed array with a count

-- the last part stands again in the places behind it
unfoldable pub one_of : Part → SuccessorType → Walked
one_of a kind = record { parts = a ∷ a ∷ a ∷ []; count = 1; kind = kind }

unfoldable pub two_of : Part → Part → SuccessorType → Walked
two_of a b kind = record { parts = a ∷ b ∷ b ∷ []; count = 2; kind = kind }

unfoldable pub three_of : Part → Part → Part → SuccessorType → Walked
three_of a b c kind = record { parts = a ∷ b ∷ c ∷ []; count = 3; kind = kind }

-- "one to three": there is no other case (proofs/Laws, one_to_three)
abbrev pub held : List Part → SuccessorType → Walked
held [] kind = record { parts = []; count = 0; kind = kind }
held (a ∷ []) kind = one_of a kind
held (a ∷ b ∷ []) kind = two_of a b kind
held (a ∷ b ∷ c ∷ rest) kind = three_of a b c kind

abbrev pub walked_of : Walk → Walked
walked_of walk = held walk.parts walk.kind

-- the parts that it holds
abbrev pub parts_of : Walked → List Part
parts_of walked = take walked.count walked.parts

-- the i-th of a list of parts, and behind its end what reading such a place of an array is said to give
abbrev pub no_part : Part
no_part = record { interval = (record { x = nan; y = nan }, record { x = nan; y = nan }); kind = LeftNonObservable }

abbrev pub part_at : List Part → ℕ → Part
part_at parts i = get_or parts i no_part
