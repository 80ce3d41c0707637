-- The end record carries the count of the points: of an accepted file the last record is the end of the last node of the parent chain, and that
-- node's ending has as many points as the route. Rests on the chain record by record (proofs/Chained). Assumes nothing.
use Prim.Native.Nat.{ℕ, zero, suc, ◌+◌, ◌-◌, ◌*◌, ◌/◌, ◌≤◌, ◌<◌, ◌^◌}
use native.Mathlib.Omega.{arith}
use mathlib.Core.Path.{◌≡◌, refl, sym, ap, ◌∙◌, subst}
use mathlib.Core.Bool.{Bool, true, false, cond, ◌&&◌}
use mathlib.Core.List.{List, [], ◌∷◌, ◌++◌}
use lib.Ieee.{Float}
use lib.ListN.{length, take, drop}
use lib.Seq.{take_at, take-take, drop-drop, take-add}
use Rattle.word.specs.Word.{little_endian, bytes_of, word_at}
use Rattle.word.proofs.Runs.{length_part}
use Rattle.word.proofs.Bytes.{length_bytes_of, little_endian_bytes_of}
use Rattle.point.specs.declared.Point.{Point}
use Rattle.std.specs.Prelude.{Option, Some, None, Result, Ok, Err}
use Rattle.point.specs.Point.{same_of}
use Rattle.helpers.specs.Helpers.{turning_point_of}
use Rattle.stored.specs.Stored.{Floor}
use Rattle.route.specs.declared.Step.{Step}
use Rattle.route.specs.declared.Fault.{Fault}
use Rattle.route.specs.declared.Fault.TheVariants.{NotStep, NotEnd}
use Rattle.route.specs.World.{World}
use Rattle.route.specs.Record.{words_bytes, end_words, end_bytes, record_at, records, bits}
use Rattle.route.specs.Judge.{same_bytes, find_step, onwards, judge_end, judge_from, judge_of}
use Rattle.route.proofs.Find.{same_true}
use Rattle.route.proofs.Trails.{same_parts}
use Rattle.route.proofs.Turns.{length_gives, begins}
use Rattle.records.specs.Records.{points_word}
use Rattle.steps.specs.declared.Node.{Node}
use Rattle.steps.specs.declared.Trip.{Trip}
use Rattle.steps.specs.Steps.{steps_from, seed_node, enter}
use Rattle.steps.specs.World.{last_leg, ending_of, world_in}
use Rattle.readout.specs.Points.{onto, chain_from, chain_of, going_round, last_points, points_along, points_of}
use Rattle.judge.proofs.Following.{seed_points}
use Rattle.readout.proofs.Chained.{accepted_length, accepted_seed, along_end, step_counts}

-- the last node of a chain
unfoldable pub last_of : Node → List Node → Node
last_of node [] = node
last_of node (next ∷ nodes) = last_of next nodes

-- ---- the last record is its end

accepts : Result Unit Fault → Type 0
accepts (Ok u) = Unit {0}
accepts (Err fault) = ⊥

is_accepted : (j : Result Unit Fault) → j ≡ Ok tt → accepts j
unfolding accepts
is_accepted j e = subst accepts (sym e) tt

module _ (w : World Node) (file : List ℕ) where
  end_accepts : (node : Node) (i : ℕ) → judge_end w file node i ≡ Ok tt → record_at file i ≡ w.end_bytes node
  unfolding judge_end accepts
  end_accepts node i e = go (w.in_goal node) (same_bytes (record_at file i) (w.end_bytes node)) refl (is_accepted (judge_end w file node i) e)
    where
      go : (g b : Bool) → same_bytes (record_at file i) (w.end_bytes node) ≡ b → accepts (cond (g && b) (Ok tt) (Err (NotEnd i)))
          → record_at file i ≡ w.end_bytes node
      go true true h a = same_true (record_at file i) (w.end_bytes node) h
      go true false h a = absurd a
      go false b h a = absurd a

  pub end_of_chain : (left : ℕ) (node : Node) (i : ℕ) → judge_from w file node i left ≡ Ok tt
      → record_at file (i + left) ≡ w.end_bytes (last_of node (chain_from w file node i left))
  unfolding judge_from chain_from last_of accepts onwards
  end_of_chain zero node i e =
      let n : i + 0 ≡ i = omega arith in
      ap (record_at file) n ∙ end_accepts node i e
  end_of_chain (suc left) node i e = go (find_step (w.steps_from node) (record_at file i)) e (λ t. end_of_chain left (w.enter node t) (i + 1))
    where
      go : (x : Option Step) → onwards x (λ s. judge_from w file (w.enter node s) (i + 1) left) (Err (NotStep i)) ≡ Ok tt
          → ((t : Step) → let next = w.enter node t in judge_from w file next (i + 1) left ≡ Ok tt
          → record_at file (i + 1 + left) ≡ w.end_bytes (last_of next (chain_from w file next (i + 1) left)))
          → record_at file (i + suc left) ≡ w.end_bytes (last_of node (onto x (λ s. w.enter node s ∷ chain_from w file (w.enter node s) (i + 1) left)))
      go (Some t) d below =
          let n : i + suc left ≡ i + 1 + left = omega arith in
          ap (record_at file) n ∙ below t d
      go None d below = absurd (is_accepted (Err (NotStep i)) d)

  -- of a whole file
  pub end_of_file : judge_of w file ≡ Ok tt → record_at file (length file / 32 - 1) ≡ w.end_bytes (last_of w.seed (chain_of w file))
  unfolding chain_of records
  end_of_file e =
      let r = accepted_length w file e in
      let g = length_gives file r in
      let n : length file / 32 ≡ length file / 32 - 1 + 1 = omega arith in
      let m : length file / 32 - 1 - 1 ≡ length file / 32 - 2 = omega arith in
      let k : length file / 32 - 1 ≡ 1 + (length file / 32 - 2) = omega arith in
      let f : judge_from w file w.seed 1 (length file / 32 - 2) ≡ Ok tt =
      ap (judge_from w file w.seed 1) (sym m) ∙ sym (begins w file r (accepted_seed w file e) (length file / 32 - 1) n) ∙ e in
      ap (record_at file) k ∙ end_of_chain (length file / 32 - 2) w.seed 1 f

-- ---- as many points as the ending says

module _ (goal : Point) (node : Node) where
  pub last_count : (ending_of goal node).points ≡ node.points + length (last_points goal node)
  unfolding ending_of last_points
  last_count = go node.seed (turning_point_of node.root goal node.interval)
    where
      round : (t : Option Point) → (last_leg goal node t).points ≡ node.points + length (going_round t goal)
      round (Some p) = refl
      round None = refl

      go : (b : Bool) (t : Option Point)
          → (cond b (last_leg goal node None) (last_leg goal node t)).points ≡ node.points + length (cond b (goal ∷ []) (going_round t goal))
      go true t = refl
      go false t = round t

module _ (f : Floor) (trip : Trip) (file : List ℕ) where
  abbrev w : World Node
  w = world_in f trip

  abbrev goal : Point
  goal = trip.goal

  abbrev into : Node → Step → Node
  into = enter f.vertices

  pub chain_count : (left : ℕ) (node : Node) (i : ℕ)
      → (ending_of goal (last_of node (chain_from w file node i left))).points ≡ node.points + length (points_along goal node (chain_from w file node i left))
  unfolding chain_from last_of world_in
  chain_count zero node i = last_count goal node ∙ ap (λ (l : List Point). node.points + length l) (sym (along_end goal node))
  chain_count (suc left) node i = go (find_step (steps_from f trip.to node) (record_at file i)) (λ t. chain_count left (into node t) (i + 1))
    where
      go : (x : Option Step)
          → ((t : Step) → let next = into node t in let rest = chain_from w file next (i + 1) left in
          (ending_of goal (last_of next rest)).points ≡ next.points + length (points_along goal next rest))
          → (ending_of goal (last_of node (onto x (λ t. into node t ∷ chain_from w file (into node t) (i + 1) left)))).points
          ≡ node.points + length (points_along goal node (onto x (λ t. into node t ∷ chain_from w file (into node t) (i + 1) left)))
      go (Some t) below = below t ∙ step_counts f.vertices goal node t (chain_from w file (into node t) (i + 1) left)
      go None below = last_count goal node ∙ ap (λ (l : List Point). node.points + length l) (sym (along_end goal node))

  pub route_count : (ending_of goal (last_of w.seed (chain_of w file))).points ≡ length (points_of w goal file)
  unfolding chain_of points_of world_in
  route_count = chain_count (records file - 2) (seed_node trip.start trip.from) 1 ∙ omega (arith, seed_points trip.start trip.from)

-- the last record of an accepted file
pub end_bytes_of : (f : Floor) (trip : Trip) (file : List ℕ) → let w = world_in f trip in judge_of w file ≡ Ok tt
    → let ending = ending_of trip.goal (last_of w.seed (chain_of w file)) in
    record_at file (length file / 32 - 1) ≡ end_bytes ending.points trip.goal ending.length
unfolding world_in
end_bytes_of f trip file e = end_of_file (world_in f trip) file e

-- ---- the count in the bytes

-- the second word of an end record
end_word : (file : List ℕ) (at n : ℕ) (goal : Point) (len : Float) → at + 32 ≤ length file → n < 2 ^ 32
    → take 32 (drop at file) ≡ end_bytes n goal len → word_at file (at + 4) ≡ n
unfolding word_at end_bytes end_words words_bytes
end_word file at n goal len h small e =
    let l = drop at file in
    let split : take 32 l ≡ take 4 l ++ take 28 (drop (at + 4) file) = take-add 4 28 l
    ∙ ap (λ (x : List ℕ). take 4 l ++ take 28 x) (drop-drop 4 at file) in
    let words = words_bytes (n ∷ bits goal.x ∷ bits goal.y ∷ bits len ∷ 0 ∷ 0 ∷ 0 ∷ []) in
    let first =
    same_parts 4 (take 4 l) (take 28 (drop (at + 4) file)) (bytes_of 4 5) words (length_part 4 file at (omega arith)) (length_bytes_of 4 5) (sym split ∙ e) in
    ap little_endian (sym (take-take 4 28 (drop (at + 4) file) (omega arith)) ∙ ap (take 4) first.1 ∙ take_at (bytes_of 4 n) _ 4 (length_bytes_of 4 n))
    ∙ little_endian_bytes_of 4 n small

-- a route has no more points than records
last_few : (goal : Point) (node : Node) → length (last_points goal node) ≤ 2
unfolding last_points
last_few goal node = go node.seed (turning_point_of node.root goal node.interval)
  where
    round : (t : Option Point) → length (going_round t goal) ≤ 2
    round (Some p) = omega arith
    round None = omega arith

    go : (b : Bool) (t : Option Point) → length (cond b (goal ∷ []) (going_round t goal)) ≤ 2
    go true t = omega arith
    go false t = round t

along_few : (goal : Point) (node : Node) (nodes : List Node) → length (points_along goal node nodes) ≤ length nodes + 2
unfolding points_along
along_few goal node [] = last_few goal node
along_few goal node (next ∷ nodes) = go (same_of next.root node.root) (along_few goal next nodes)
  where
    go : (b : Bool) → length (points_along goal next nodes) ≤ length nodes + 2
        → length (cond b (points_along goal next nodes) (next.root ∷ points_along goal next nodes)) ≤ suc (length nodes) + 2
    go true h = omega arith
    go false h = omega arith

chain_few : (w : World Node) (file : List ℕ) (left : ℕ) (node : Node) (i : ℕ) → length (chain_from w file node i left) ≤ left
unfolding chain_from
chain_few w file zero node i = omega arith
chain_few w file (suc left) node i = go (find_step (w.steps_from node) (record_at file i)) (λ t. chain_few w file left (w.enter node t) (i + 1))
  where
    go : (x : Option Step) → ((t : Step) → length (chain_from w file (w.enter node t) (i + 1) left) ≤ left)
        → length (onto x (λ t. w.enter node t ∷ chain_from w file (w.enter node t) (i + 1) left)) ≤ suc left
    go (Some t) below = omega (arith, below t)
    go None below = omega arith

pub points_few : (w : World Node) (goal : Point) (file : List ℕ) → length (points_of w goal file) ≤ length file / 32 - 2 + 2
unfolding points_of chain_of records
points_few w goal file =
    let left = length file / 32 - 2 in
    omega (arith, along_few goal w.seed (chain_from w file w.seed 1 left), chain_few w file left w.seed 1)

-- the number of points, where the code reads it
pub count_is_written : (f : Floor) (trip : Trip) (file : List ℕ) → judge_of (world_in f trip) file ≡ Ok tt
    → points_word file (records file - 1) ≡ length (points_of (world_in f trip) trip.goal file)
unfolding record_at records
count_is_written f trip file e =
    let w = world_in f trip in
    let g = length_gives file (accepted_length w file e) in
    let n = ending_of trip.goal (last_of w.seed (chain_of w file)) in
    let count = route_count f trip file in
    let small : n.points < 2 ^ 32 = omega (arith, count, points_few w trip.goal file, g) in
    end_word file ((length file / 32 - 1) * 32) n.points trip.goal n.length (omega arith) small (end_bytes_of f trip file e) ∙ count
