-- Every interval of the walk and of the clip has f32 ends, whatever the node: a record holds every step whole. Rests on the kit's `add-fits`. Assumes nothing.
use Prim.Native.Nat.{ℕ, zero, suc}
use mathlib.Core.Path.{◌≡◌, refl, subst}
use mathlib.Core.Bool.{Bool, true, false, not, cond, ◌&&◌}
use mathlib.Core.List.{List, [], ◌∷◌}
use mathlib.Core.Logic.{inl, inr}
use lib.Ieee.{binary32, nan, lt}
use lib.Ieee.Fits.{add-fits, nan-fits}
use Rattle.std.specs.Prelude.{Some}
use Rattle.counts.specs.Counts.{table}
use Rattle.point.specs.declared.Point.{Point}
use Rattle.point.specs.declared.Segment.{Segment}
use Rattle.point.specs.Point.{slack, point_of, plus_of, same_of}
use Rattle.cone.specs.Cone.{clip_to_cone_of}
use Rattle.cone.specs.Sight.{right_length, left_length}
use Rattle.cone.proofs.Clip.{clip_short_ray, clip_ends}
use Rattle.cut.specs.declared.SuccessorType.{SuccessorType}
use Rattle.walk.specs.declared.Part.{Part}
use Rattle.walk.specs.Walk.{walk_edge_of}
use Rattle.walk.specs.declared.Successor.{Successor}
use Rattle.walk.specs.Round.{corner_of, edge_of, successors_on, walk_of, successors_of}
use Rattle.route.specs.Step.{HeldPoint}
use Rattle.stored.specs.Stored.{vertex_in, Floor, vertex, edge, corner_count, corner, polygon}
use Rattle.steps.specs.declared.Node.{Node}
use Rattle.steps.specs.Steps.{whole_edge, whole_edges, successors_in, candidates, clipped, root_after}
use Rattle.walk.proofs.All.{All, all_append, all_of_map}
use Rattle.walk.proofs.Ends.{each_end}
use Rattle.steps.proofs.All.{all_table}

-- ---- points

abbrev pub HeldSegment : Segment → Type 0
HeldSegment s = HeldPoint s.0 × HeldPoint s.1

pub sum_held : (p q : Point) → HeldPoint (plus_of p q)
unfolding plus_of
sum_held p q = record { x_held = add-fits binary32 p.x q.x; y_held = add-fits binary32 p.y q.y }

nan_held : HeldPoint (point_of nan nan)
unfolding point_of
nan_held = record { x_held = nan-fits binary32; y_held = nan-fits binary32 }

vertex_held : (f : Floor) (v : ℕ) → HeldPoint (vertex f v)
unfolding vertex_in
vertex_held f v = sum_held _ _

-- ---- the candidates

abbrev HeldPart : Part → Type 0
HeldPart part = HeldSegment part.interval

abbrev pub HeldSuccessor : Successor → Type 0
HeldSuccessor s = HeldPart s.part

corner_held : (corners : List Point) → All HeldPoint corners → (i : ℕ) → HeldPoint (corner_of corners i)
unfolding corner_of
corner_held [] a i = nan_held
corner_held (p ∷ ps) a zero = a.0
corner_held (p ∷ ps) a (suc i) = corner_held ps a.1 i

walk_held : (root : Point) (interval : Segment) (corners : List Point) → All HeldPoint corners → (kind : SuccessorType) (is : List ℕ)
    → All HeldSuccessor (walk_of root interval corners kind is)
unfolding walk_of edge_of
walk_held root interval corners a kind [] = tt
walk_held root interval corners a kind (i ∷ is) =
    let walk = walk_edge_of root interval (edge_of corners i) kind in
    all_append HeldSuccessor (successors_on i walk.parts) _
    (all_of_map HeldSuccessor (λ part. record { edge = i; part = part }) walk.parts
    (each_end HeldPoint sum_held root interval (edge_of corners i) kind (corner_held corners a i) (corner_held corners a _)))
    (walk_held root interval corners a walk.kind is)

pub candidates_held : (f : Floor) (node : Node) → All HeldSuccessor (candidates f node)
unfolding candidates whole_edges whole_edge successors_in successors_of edge
candidates_held f node = go node.seed
  where
    go : (b : Bool) → All HeldSuccessor (cond b (whole_edges f node) (successors_in f node))
    go true = all_table HeldSuccessor (corner_count (polygon f node.polygon)) (whole_edge f node) (λ i. (vertex_held f _, vertex_held f _))
    go false =
        walk_held node.root node.interval
        (table (corner_count (polygon f node.polygon)) (λ i. vertex f (corner (polygon f node.polygon) i)))
        (all_table HeldPoint (corner_count (polygon f node.polygon)) (λ i. vertex f (corner (polygon f node.polygon) i)) (λ i. vertex_held f _)) _ _

-- ---- the clip

clip_held : (root : Point) (cone segment seen : Segment) → HeldSegment segment → clip_to_cone_of root cone segment ≡ Some seen → HeldSegment seen
clip_held root cone segment seen h e = go (lt (right_length root cone) slack) refl (lt (left_length root cone) slack) refl
  where
    given : clip_to_cone_of root cone segment ≡ Some segment → HeldSegment seen
    given k = let same : segment ≡ seen = cc in subst HeldSegment same h

    go : (a : Bool) → lt (right_length root cone) slack ≡ a → (b : Bool) → lt (left_length root cone) slack ≡ b → HeldSegment seen
    go true a b c = given (clip_short_ray root cone segment (inl a))
    go false a true c = given (clip_short_ray root cone segment (inr c))
    go false a false c =
        let r = clip_ends root cone segment a c seen e in (
          record { x_held = rw r.start_x (add-fits binary32 _ _); y_held = rw r.start_y (add-fits binary32 _ _) },
          record { x_held = rw r.end_x (add-fits binary32 _ _); y_held = rw r.end_y (add-fits binary32 _ _) },
        )

pub clipped_held : (f : Floor) (node : Node) (kind : SuccessorType) (interval seen : Segment) → HeldSegment interval
    → clipped f.vertices node kind interval ≡ Some seen → HeldSegment seen
unfolding clipped
clipped_held f node kind interval seen h e = go (not node.seed && same_of (root_after f.vertices node kind) node.root) e
  where
    go : (b : Bool) → cond b (clip_to_cone_of node.root node.interval interval) (Some interval) ≡ Some seen → HeldSegment seen
    go true e = clip_held node.root node.interval interval seen h e
    go false e = let same : interval ≡ seen = cc in subst HeldSegment same h
