-- What becomes of a node that was made: each way through the code is the definition's. Assumes nothing.
use Prim.Native.Nat.{ℕ, ◌+◌, ◌*◌, ◌≤◌, ◌<◌}
use mathlib.Core.Path.{◌≡◌, refl, sym, ◌∙◌}
use mathlib.Core.Bool.{Bool, true, false}
use mathlib.Core.List.{List}
use native.Mathlib.Omega.{arith}
use borrow.Author.Tests.{eq-eqb, lt-ltb, le-ltb, lt-leb, le-leb}
use lib.Ieee.{Float, nan, inf, fin, up, down, binary32, add, lt, ne, is_nan}
use lib.ListN.{length}
use Rattle.point.specs.declared.Point.{Point}
use Rattle.point.specs.Point.{same_of}
use Rattle.helpers.specs.Helpers.{heuristic_of}
use Rattle.route.specs.declared.Step.{Step}
use Rattle.route.specs.Step.{kind_number}
use Rattle.steps.specs.declared.Node.{Node}
use Rattle.steps.specs.Steps.{enter}
use Rattle.queue.specs.Queue.{none, put, Tree}
use Rattle.queue.specs.Words.{column, queued_in, queue_of}
use Rattle.places.proofs.Rows.{record_beside, distance_beside}
use Rattle.places.proofs.Records.{record_for_le, record_for_equal, record_for_put}
use Rattle.places.proofs.Queued.{tree_beside, tree_behind}
use Rattle.machine.specs.declared.Task.{Task}
use Rattle.machine.specs.declared.Counts.{Counts}
use Rattle.machine.specs.declared.Origin.{Origin}
use Rattle.places.specs.Layout.{work_of, record_for, record_distance, record_put, distance_put, put_floats, put_words}
use Rattle.machine.specs.Search.{State, state_of, making, took_place, took_record, beaten_in, recorded, queued, kept, placed, taken, made}
use Rattle.machine.specs.Sound.{Fit}

-- ---- NaN is what differs from itself

pub differs : (x : Float) → ne x x ≡ is_nan x
unfolding ne is_nan
differs nan = refl
differs (inf true) = refl
differs (inf false) = refl
differs (fin true m d) = rw (eq-eqb (m * up d * down d) _ refl)
differs (fin false m d) = rw (eq-eqb (m * up d * down d) _ refl)

-- ---- kept or dropped

module _ (n : ℕ) (s : State) (i : ℕ) (node : Node) {r : ℕ} (found : r ≡ record_for s.work.floats s.counts.records node.root) where
  -- the state with other distances and another queue
  abbrev with_these : List Float → List ℕ → Counts → State
  with_these fs qs counts = state_of (work_of fs s.work.words qs) counts

  -- the queue with the place
  abbrev with_it : List Float → List ℕ
  with_it fs = queue_of (column fs 11 7) n (put (queued_in n s.work.queue) i true) s.work.queue

  pub keeps_none : r < s.counts.records → {d : Float} → d ≡ record_distance s.work.floats r → lt d node.length ≡ true
      → s ≡ kept n s i node
  unfolding kept beaten_in
  keeps_none l told less = rw (← found, lt-ltb _ _ l, ← told, less)

  pub keeps_record : r < s.counts.records → {d : Float} → d ≡ record_distance s.work.floats r → lt d node.length ≡ false
      → {fs : List Float} → fs ≡ distance_put s.work.floats r node.length → {qs : List ℕ} → qs ≡ with_it fs
      → with_these fs qs s.counts ≡ kept n s i node
  unfolding kept beaten_in recorded queued
  keeps_record l told less f q = rw (q, f, ← found, lt-ltb _ _ l, ← told, less)

  pub keeps_new : s.counts.records ≤ r
      → {fs : List Float} → fs ≡ record_put s.work.floats r node.root node.length → {qs : List ℕ} → qs ≡ with_it fs
      → with_these fs qs (took_record s.counts) ≡ kept n s i node
  unfolding kept beaten_in recorded queued
  keeps_new l f q = rw (q, f, ← found, le-ltb _ _ l)

-- the old root's number is the root's too, where they are the same
pub keeps_number : (fs : List Float) (records : ℕ) (root old : Point) {same : Bool} → same ≡ same_of root old → same ≡ true
    → {number : ℕ} → record_for fs records old ≡ number → number ≡ record_for fs records root
keeps_number fs records root old e s found = sym (record_for_equal fs records root old (sym e ∙ s) ∙ found)

-- there is a row for it
pub record_row : (fs : List Float) (records : ℕ) (root : Point) {r : ℕ} → r ≡ record_for fs records root → (n : ℕ) → records < n
    → n * 11 ≤ length fs
    → (r + 1) * 11 ≤ length fs
record_row fs records root found n l room = omega (arith, record_for_le fs records root, found)

-- the queue is still one after a distance, or a record, was put,
module _ (n : ℕ) (few : n ≤ 4096) (fs : List Float) (qs : List ℕ) (tree : Tree (column fs 11 7) n (queued_in n qs) qs) (r : ℕ) where
  pub tree_on_distance : (distance : Float) {fs' : List Float} → fs' ≡ distance_put fs r distance → Tree (column fs' 11 7) n (queued_in n qs) qs
  tree_on_distance distance e = rw e (tree_beside n (omega arith) fs qs tree (distance_put fs r distance) (distance_beside fs r distance))

  pub tree_on_record : (root : Point) (distance : Float) {fs' : List Float} → fs' ≡ record_put fs r root distance
      → Tree (column fs' 11 7) n (queued_in n qs) qs
  tree_on_record root distance e = rw e (tree_beside n (omega arith) fs qs tree (record_put fs r root distance) (record_beside fs r root distance))

-- ---- a place is taken

-- and after a node was put at the next place
pub tree_on_node : {t : Task} {s : State} → Fit t s → (node : Node) (f : Float) {fs' : List Float}
    → fs' ≡ put_floats s.work.floats s.counts.taken node f
    → Tree (column fs' 11 7) t.places (queued_in t.places s.work.queue) s.work.queue
tree_on_node {t} {s} fit node f e =
    let few : t.places ≤ none = omega (arith, fit.room.few) in
    rw e (tree_behind t.places few s.work.floats s.work.queue fit.queue.tree s.counts.taken node f fit.queue.below)

-- the record of a root is found where it was, after a node was put
pub still_found : (fs : List Float) (i : ℕ) (node : Node) (f : Float) (records : ℕ) {number : ℕ} → number ≡ record_for fs records node.root
    → {fs' : List Float} → fs' ≡ put_floats fs i node f → number ≡ record_for fs' records node.root
still_found fs i node f records e p = e ∙ rw p (sym (record_for_put fs i node f records node.root))

module _ (n : ℕ) (s : State) (from : Origin) (kind : ℕ) (node : Node) (f : Float) where
  pub takes : {number : ℕ} → number ≡ record_for s.work.floats s.counts.records node.root
      → {fs : List Float} → fs ≡ put_floats s.work.floats s.counts.taken node f
      → {ws : List ℕ} → ws ≡ put_words s.work.words s.counts.taken kind node from.place (from.depth + 1) number
      → {after : State} → after ≡ kept n (state_of (work_of fs ws s.work.queue) (took_place s.counts)) s.counts.taken node
      → after ≡ taken n s from kind node f
  unfolding taken placed
  takes n f w e = e ∙ rw (f, w, n)

-- ---- a node is made, or none

module _ (vertices : List Point) (t : Task) (s : State) (from : Origin) (step : Step) {node : Node} {h : Float}
    (entered : node ≡ enter vertices from.node step) (guessed : h ≡ heuristic_of node.root t.trip.goal node.interval) where
  pub makes_none : {a : Bool} → a ≡ is_nan node.length → a ≡ true → making s false ≡ made vertices t s from step
  unfolding made
  makes_none e a = rw (← entered, ← e, a)

  module _ {a : Bool} (e : a ≡ is_nan node.length) (long : a ≡ false) {b : Bool} (g : b ≡ is_nan h) where
    pub makes_nothing : b ≡ true → making s false ≡ made vertices t s from step
    unfolding made
    makes_nothing b = rw (← entered, ← e, long, ← guessed, ← g, b)

    pub makes_full : b ≡ false → t.places ≤ s.counts.taken → making s true ≡ made vertices t s from step
    unfolding made
    makes_full b l = rw (← entered, ← e, long, ← guessed, ← g, b, le-leb _ _ l)

    pub makes_one : b ≡ false → s.counts.taken < t.places → {kind : ℕ} → kind ≡ kind_number step.kind
        → {after : State} → after ≡ taken t.places s from kind node (add binary32 node.length h)
        → making after false ≡ made vertices t s from step
    unfolding made
    makes_one b l k m = rw (m, k, ← entered, ← e, long, ← guessed, ← g, b, lt-leb _ _ l)
