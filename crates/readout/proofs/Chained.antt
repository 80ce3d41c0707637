-- The parent chain record by record: what is known of an accepted file, and what one step adds to the points. Rests on points in a slice
-- (proofs/Placed). Assumes nothing.
use Prim.Native.Nat.{ℕ, suc, ◌+◌, ◌-◌, ◌*◌, ◌≤◌, ◌<◌}
use native.Mathlib.Omega.{arith}
use mathlib.Core.Path.{◌≡◌, refl, sym, ap, ap₂, ◌∙◌}
use mathlib.Core.Bool.{Bool, true, false}
use mathlib.Core.List.{List, [], ◌∷◌}
use lib.Ieee.{Float}
use lib.ListN.{length}
use lib.Seq.{sets}
use Rattle.point.specs.declared.Point.{Point}
use Rattle.point.specs.Point.{same_of}
use Rattle.route.specs.declared.Step.{Step}
use Rattle.std.specs.Prelude.{Some, Ok, Err}
use Rattle.route.specs.declared.Fault.TheVariants.{NotStep}
use Rattle.route.specs.World.{World}
use Rattle.route.specs.Record.{record_at}
use Rattle.route.specs.Judge.{length_right, same_bytes, find_step, judge_of}
use Rattle.route.proofs.Turns.{begins_length, begins_wrong}
use Rattle.steps.specs.declared.Node.{Node}
use Rattle.steps.specs.Steps.{enter}
use Rattle.readout.specs.Points.{chain_from, last_points, points_along}
use Rattle.readout.specs.Readout.{floats_of, put_point, put_root}
use Rattle.readout.proofs.Placed.{put_more, put_long}

-- ---- accepted: the length is right, and record 0 is the seed

pub accepted_length : {Node : Type 0} (w : World Node) (file : List ℕ) → judge_of w file ≡ Ok tt → length_right file ≡ true
accepted_length w file e = go (length_right file) refl
  where
    go : (b : Bool) → length_right file ≡ b → b ≡ true
    go true h = refl
    go false h = let z : ◌≡◌ {A = ℕ} 0 1 = cc (begins_length w file h) in absurd (omega arith)

pub accepted_seed : {Node : Type 0} (w : World Node) (file : List ℕ) → judge_of w file ≡ Ok tt → same_bytes (record_at file 0) w.seed_bytes ≡ true
accepted_seed w file e = go (same_bytes (record_at file 0) w.seed_bytes) refl
  where
    go : (b : Bool) → same_bytes (record_at file 0) w.seed_bytes ≡ b → b ≡ true
    go true h = refl
    go false h = let z : ◌≡◌ {A = ℕ} 0 1 = cc (begins_wrong w file (accepted_length w file e) h) in absurd (omega arith)

pub accepted_stops_not : {Node : Type 0} (w : World Node) (file : List ℕ) (i : ℕ) → judge_of w file ≡ Ok tt → judge_of w file ≡ Err (NotStep i) → ⊥
accepted_stops_not w file i e d = let z : ◌≡◌ {A = ℕ} 0 1 = cc in omega arith

-- ---- one step of the chain

module _ (w : World Node) (file : List ℕ) (node : Node) (i last : ℕ) where
  pub chain_step : (t : Step) → i < last → find_step (w.steps_from node) (record_at file i) ≡ Some t
      → chain_from w file node i (last - i) ≡ w.enter node t ∷ chain_from w file (w.enter node t) (i + 1) (last - (i + 1))
  unfolding chain_from
  chain_step t l e =
      let n : last - i ≡ suc (last - (i + 1)) = omega arith in
      rw (n, e)

  pub chain_end : last ≤ i → chain_from w file node i (last - i) ≡ []
  unfolding chain_from
  chain_end l =
      let n : last - i ≡ 0 = omega arith in
      rw n

-- ---- one step's point

module _ (vertices : List Point) (goal : Point) (node : Node) (t : Step) (rest : List Node) where
  abbrev next : Node
  next = enter vertices node t

  points_kept : same_of next.root node.root ≡ true → next.points ≡ node.points
  unfolding enter
  points_kept e = rw e

  points_more : same_of next.root node.root ≡ false → next.points ≡ node.points + 1
  unfolding enter
  points_more e = rw e

  pub along_kept : same_of next.root node.root ≡ true → points_along goal node (next ∷ rest) ≡ points_along goal next rest
  unfolding points_along
  along_kept e = rw e

  pub along_more : same_of next.root node.root ≡ false → points_along goal node (next ∷ rest) ≡ next.root ∷ points_along goal next rest
  unfolding points_along
  along_more e = rw e

  root_kept : (out : List Float) → same_of next.root node.root ≡ true → put_root out node next ≡ out
  unfolding put_root
  root_kept out e = rw e

  root_more : (out : List Float) → same_of next.root node.root ≡ false → put_root out node next ≡ put_point out node.points next.root
  unfolding put_root
  root_more out e = rw e

  by_root : {A : Type 0} → (same_of next.root node.root ≡ true → A) → (same_of next.root node.root ≡ false → A) → A
  by_root {A} one two = go (same_of next.root node.root) refl
    where
      go : (b : Bool) → same_of next.root node.root ≡ b → A
      go true e = one e
      go false e = two e

  -- put into its places, it leaves the others to be put behind it
  pub step_places : (out : List Float)
      → sets (put_root out node next) (next.points * 2) (floats_of (points_along goal next rest))
      ≡ sets out (node.points * 2) (floats_of (points_along goal node (next ∷ rest)))
  step_places out =
      by_root
      (λ e.
      ap₂ (λ (o : List Float) (k : ℕ). sets o (k * 2) (floats_of (points_along goal next rest))) (root_kept out e) (points_kept e)
      ∙ ap (λ (l : List Point). sets out (node.points * 2) (floats_of l)) (sym (along_kept e)))
      (λ e.
      ap₂ (λ (o : List Float) (k : ℕ). sets o (k * 2) (floats_of (points_along goal next rest))) (root_more out e) (points_more e)
      ∙ put_more out node.points next.root (points_along goal next rest)
      ∙ ap (λ (l : List Point). sets out (node.points * 2) (floats_of l)) (sym (along_more e)))

  pub step_counts : next.points + length (points_along goal next rest) ≡ node.points + length (points_along goal node (next ∷ rest))
  step_counts =
      by_root
      (λ e. ap₂ (λ (k : ℕ) (l : List Point). k + length l) (points_kept e) (sym (along_kept e)))
      (λ e.
      let n : length (points_along goal node (next ∷ rest)) ≡ suc (length (points_along goal next rest)) = ap length (along_more e) in
      omega (arith, points_more e, n))

  pub step_long : (out : List Float) → length (put_root out node next) ≡ length out
  step_long out = by_root (λ e. ap length (root_kept out e)) (λ e. ap length (root_more out e) ∙ put_long out node.points next.root)

  pub some_point : same_of next.root node.root ≡ false → 1 ≤ length (points_along goal node (next ∷ rest))
  some_point e =
      let n : length (points_along goal node (next ∷ rest)) ≡ suc (length (points_along goal next rest)) = ap length (along_more e) in
      omega (arith, n)

pub along_end : (goal : Point) (node : Node) → points_along goal node [] ≡ last_points goal node
unfolding points_along
along_end goal node = refl
