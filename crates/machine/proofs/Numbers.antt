-- The number of a root's record: what a search does leaves it as it is, and a node that takes a place keeps its own. Assumes nothing.
use Prim.Native.Nat.{ℕ, ◌+◌, ◌*◌, ◌≤◌, ◌<◌}
use native.Mathlib.Omega.{arith}
use mathlib.Core.Path.{◌≡◌, refl, sym, ap, ◌∙◌, subst}
use mathlib.Core.Bool.{Bool, true, false, not, cond, ◌||◌}
use mathlib.Core.List.{List}
use borrow.Author.Tests.{ltb-true, ltb-false}
use lib.Dec.{T, leb, ltb}
use lib.Ieee.{Float, nan, inf, fin, binary32, add, sub, mul, neg, lt, is_nan}
use lib.ListN.{length}
use Rattle.std.specs.Prelude.{Option, Some, None}
use Rattle.float.proofs.Tests.{untrue}
use Rattle.float.proofs.Nan.{is_nan_lem}
use Rattle.root.specs.Root.{root_of}
use Rattle.point.specs.declared.Point.{Point}
use Rattle.point.specs.Point.{same_of, minus_of, dot_of, length_of, distance_of}
use Rattle.helpers.specs.Helpers.{heuristic_of}
use Rattle.stored.specs.Stored.{Floor}
use Rattle.route.specs.declared.Step.{Step}
use Rattle.route.specs.Step.{kind_number}
use Rattle.steps.specs.declared.Node.{Node}
use Rattle.steps.specs.Steps.{enter, root_after}
use Rattle.places.specs.Layout.{floats_per_place, record_root, record_for, record_distance, record_put, distance_put, put_queued}
use Rattle.places.proofs.Rows.{put_floats_length}
use Rattle.places.proofs.Records.{same_itself, same_self, record_root_distance, record_root_below, record_root_there, record_for_le, record_for_same}
use Rattle.places.proofs.Records.{record_for_more, record_for_new, record_for_put}
use Rattle.machine.specs.declared.Task.{Task}
use Rattle.machine.specs.declared.Origin.{Origin}
use Rattle.machine.specs.Search.{State, state_of, making, took_place, took_record, beaten_in, recorded, queued, is_beaten, kept, placed, taken, made, made_if}
use Rattle.machine.specs.Sound.{OnRecord}
use Rattle.machine.proofs.Fitting.{recorded_found, recorded_new}

-- ---- a root that a made node has is the same as itself

sub_nan : (x : Float) → sub binary32 x nan ≡ nan
unfolding sub add neg
sub_nan nan = refl
sub_nan (inf s) = refl
sub_nan (fin s m e) = refl

add_nan : (x : Float) → add binary32 x nan ≡ nan
unfolding add
add_nan nan = refl
add_nan (inf s) = refl
add_nan (fin s m e) = refl

nan_square : mul binary32 nan nan ≡ nan
unfolding mul
nan_square = refl

nan_add : (x : Float) → add binary32 nan x ≡ nan
unfolding add
nan_add x = refl

root_nan : root_of nan ≡ nan
unfolding root_of
root_nan = refl

-- a leg to a point with a NaN is NaN
leg_nan_x : (p q : Point) → q.x ≡ nan → distance_of p q ≡ nan
unfolding distance_of length_of dot_of minus_of
leg_nan_x p q e = rw (e, sub_nan p.x, nan_square, nan_add, root_nan)

leg_nan_y : (p q : Point) → q.y ≡ nan → distance_of p q ≡ nan
unfolding distance_of length_of dot_of minus_of
leg_nan_y p q e = rw (e, sub_nan p.y, nan_square, add_nan, root_nan)

is_no_nan : (b : Bool) → b ≡ false → T (not b)
is_no_nan b e = subst (λ (c : Bool). T (not c)) (sym e) tt

nan_is_nan : is_nan nan ≡ true
unfolding is_nan
nan_is_nan = refl

leg_self : (total : Float) (p q : Point) → is_nan (add binary32 total (distance_of p q)) ≡ false → same_of q q ≡ true
leg_self total p q h = go (is_nan q.x) refl (is_nan q.y) refl
  where
    never : {A : Type 0} → distance_of p q ≡ nan → A
    never e = untrue (sym h ∙ ap (λ (x : Float). is_nan (add binary32 total x)) e ∙ ap is_nan (add_nan total) ∙ nan_is_nan)

    go : (a : Bool) → is_nan q.x ≡ a → (b : Bool) → is_nan q.y ≡ b → same_of q q ≡ true
    go true x b y = never (leg_nan_x p q (is_nan_lem q.x x))
    go false x true y = never (leg_nan_y p q (is_nan_lem q.y y))
    go false x false y = same_itself q (is_no_nan (is_nan q.x) x) (is_no_nan (is_nan q.y) y)

pub made_self : (vertices : List Point) (node : Node) (step : Step) → is_nan (enter vertices node step).length ≡ false
    → same_of (enter vertices node step).root (enter vertices node step).root ≡ true
unfolding enter
made_self vertices node step = go (same_of root node.root) refl
  where
    root : Point
    root = root_after vertices node step.kind

    go : (b : Bool) → same_of root node.root ≡ b → is_nan (cond b node.length (add binary32 node.length (distance_of node.root root))) ≡ false
        → same_of root root ≡ true
    go true e h = same_self root node.root e
    go false e h = leg_self node.length node.root root h

-- ---- a root that is on record stays so

module _ (root : Point) (r : ℕ) where
  pub on_recorded : (s : State) (node : Node) → OnRecord s root r → OnRecord (recorded s node) root r
  unfolding recorded took_record
  on_recorded s node h = go (ltb k s.counts.records) refl
    where
      fs : List Float
      fs = s.work.floats

      k : ℕ
      k = record_for fs s.counts.records node.root

      go : (b : Bool) → ltb k s.counts.records ≡ b → OnRecord (cond b (recorded_found s node) (recorded_new s node)) root r
      go true e =
          record {
            found = record_for_same (distance_put fs k node.length) fs s.counts.records root
                (λ j l. record_root_distance fs k node.length j) ∙ h.found;
            low = h.low;
          }
      go false e =
          let above = ltb-false k s.counts.records e in
          record {
            found = record_for_more (record_put fs k node.root node.length) fs s.counts.records root
                (λ j l. record_root_below fs k node.root node.length j (omega (arith, above, l))) (omega (arith, h.found, h.low)) ∙ h.found;
            low = omega (arith, h.low);
          }

  on_kept : (n : ℕ) (s : State) (i : ℕ) (node : Node) → OnRecord s root r → OnRecord (kept n s i node) root r
  unfolding kept queued
  on_kept n s i node h = go (is_beaten s node)
    where
      after : State
      after = recorded s node

      go : (b : Bool) → OnRecord (cond b s (state_of (put_queued n after.work i true) after.counts)) root r
      go true = h
      go false = let m = on_recorded s node h in record { found = m.found; low = m.low }

  on_placed : (s : State) (o : Origin) (kind : ℕ) (node : Node) (f : Float) → OnRecord s root r → OnRecord (placed s o kind node f) root r
  unfolding placed took_place
  on_placed s o kind node f h = record {
    found = record_for_put s.work.floats s.counts.taken node f s.counts.records root ∙ h.found;
    low = h.low;
  }

  pub on_taken : (n : ℕ) (s : State) (o : Origin) (kind : ℕ) (node : Node) (f : Float) → OnRecord s root r → OnRecord (taken n s o kind node f) root r
  unfolding taken
  on_taken n s o kind node f h = on_kept n (placed s o kind node f) s.counts.taken node (on_placed s o kind node f h)

  module _ (f : Floor) (t : Task) where
    on_made : (s : State) (o : Origin) (step : Step) → OnRecord s root r → OnRecord (made f.vertices t s o step).state root r
    unfolding made
    on_made s o step h = go (is_nan node.length || is_nan (heuristic_of node.root t.trip.goal node.interval)) (leb t.places s.counts.taken)
      where
        node : Node
        node = enter f.vertices o.node step

        value : Float
        value = add binary32 node.length (heuristic_of node.root t.trip.goal node.interval)

        after : State
        after = taken t.places s o (kind_number step.kind) node value

        go : (a b : Bool) → OnRecord (cond a (making s false) (cond b (making s true) (making after false))).state root r
        go true b = h
        go false true = h
        go false false = on_taken t.places s o (kind_number step.kind) node value h

    pub on_made_if : (s : State) (o : Origin) (p : Option Step) → OnRecord s root r → OnRecord (made_if f t s o p).state root r
    on_made_if s o (Some step) h = on_made s o step h
    on_made_if s o None h = h

-- ---- a root that was not comes to be

beaten_low : (fs : List Float) (records : ℕ) (node : Node) → beaten_in fs records node ≡ true → record_for fs records node.root < records
unfolding beaten_in
beaten_low fs records node h = go (ltb k records) refl h
  where
    k : ℕ
    k = record_for fs records node.root

    go : (b : Bool) → ltb k records ≡ b → cond b (lt (record_distance fs k) node.length) false ≡ true → k < records
    go true e h = ltb-true k records e
    go false e h = untrue h

module _ (node : Node) (self : same_of node.root node.root ≡ true) where
  own_recorded : (s : State) → (s.counts.records + 1) * floats_per_place ≤ length s.work.floats
      → OnRecord (recorded s node) node.root (record_for s.work.floats s.counts.records node.root)
  unfolding recorded took_record
  own_recorded s room = go (ltb k s.counts.records) refl
    where
      fs : List Float
      fs = s.work.floats

      k : ℕ
      k = record_for fs s.counts.records node.root

      go : (b : Bool) → ltb k s.counts.records ≡ b → OnRecord (cond b (recorded_found s node) (recorded_new s node)) node.root k
      go true e =
          record {
            found = record_for_same (distance_put fs k node.length) fs s.counts.records node.root
                (λ j l. record_root_distance fs k node.length j);
            low = ltb-true k s.counts.records e;
          }
      go false e =
          let above = ltb-false k s.counts.records e in
          let last : k ≡ s.counts.records = omega (arith, above, record_for_le fs s.counts.records node.root) in
          let there : record_root (record_put fs k node.root node.length) s.counts.records ≡ node.root
          = subst (λ (m : ℕ). record_root (record_put fs k node.root node.length) m ≡ node.root) last
          (record_root_there fs k node.root node.length (omega (arith, last, room))) in
          record {
            found = record_for_new (record_put fs k node.root node.length) fs s.counts.records node.root
                (λ j l. record_root_below fs k node.root node.length j (omega (arith, last, l))) above there self ∙ sym last;
            low = omega (arith, last);
          }

  own_kept : (n : ℕ) (s : State) (i : ℕ) → (s.counts.records + 1) * floats_per_place ≤ length s.work.floats
      → OnRecord (kept n s i node) node.root (record_for s.work.floats s.counts.records node.root)
  unfolding kept queued
  own_kept n s i room = go (is_beaten s node) refl
    where
      after : State
      after = recorded s node

      k : ℕ
      k = record_for s.work.floats s.counts.records node.root

      go : (b : Bool) → is_beaten s node ≡ b → OnRecord (cond b s (state_of (put_queued n after.work i true) after.counts)) node.root k
      go true e = record { found = refl; low = beaten_low s.work.floats s.counts.records node e }
      go false e = let m = own_recorded s room in record { found = m.found; low = m.low }

  -- the node that takes a place keeps its own
  pub own_taken : (n : ℕ) (s : State) (o : Origin) (kind : ℕ) (f : Float) → (s.counts.records + 1) * floats_per_place ≤ length s.work.floats
      → OnRecord (taken n s o kind node f) node.root (record_for s.work.floats s.counts.records node.root)
  unfolding taken placed took_place
  own_taken n s o kind f room =
      let m = own_kept n (placed s o kind node f) s.counts.taken (rw (put_floats_length s.work.floats s.counts.taken node f) room) in
      let same = record_for_put s.work.floats s.counts.taken node f s.counts.records node.root in
      record { found = m.found ∙ same; low = rw same at m.low }
