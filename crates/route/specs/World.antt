-- A world is what a floor and a question give to search and judge: where a route begins, which steps lead out of a node and where to, and which nodes
-- lie in the goal polygon. Over any world stands here what a true route is, grown at its end. Rests on the bytes of a step. Assumes nothing.
use Rattle.std.specs.Prelude.{ℕ, ◌+◌, ◌≤◌, ◌≡◌, Bool, true, length}
use mathlib.Core.List.{List, [], ◌++◌, Memᴰ}
use Rattle.route.specs.declared.Step.{Step}
use Rattle.route.specs.Step.{Held}
use Rattle.route.specs.Record.{step_bytes}

-- A node is whatever the world's steps lead between: nothing is asked of it here.
pub record World (Node : Type 0) : Type 0 where
  -- where every route begins
  pub seed : Node
  -- the permitted steps out of a node, in order
  pub steps_from : Node → List Step
  -- where a step leads to
  pub enter : Node → Step → Node
  -- whether a node lies in the goal polygon
  pub in_goal : Node → Bool
  -- the seed record
  pub seed_bytes : List ℕ
  -- the end record of a route whose last step led to this node
  pub end_bytes : Node → List ℕ

-- one of the steps of a list
infix 20 ◌∈◌
abbrev pub ◌∈◌ : Step → List Step → Type 0
s ∈ steps = Memᴰ s steps

-- What the laws ask of a world.
pub record Lawful {Node : Type 0} (w : World Node) : Type 0 where
  -- a record holds every step whole
  pub steps_held : (n : Node) (s : Step) → s ∈ w.steps_from n → Held s
  -- "32-byte records"
  pub seed_long : length w.seed_bytes ≡ 32
  pub end_long : (n : Node) → length (w.end_bytes n) ≡ 32
  -- "Nothing steps out of the goal polygon."
  pub goal_ends : (n : Node) → w.in_goal n ≡ true → w.steps_from n ≡ []

-- A seed and permitted steps, each out of the node that the one before it led to: how many steps, which node they lead to, and the records' bytes.
pub data Trail {Node : Type 0} (w : World Node) : ℕ → Node → List ℕ → Type 0 where
  seeded : Trail w 0 w.seed w.seed_bytes
  stepped : {d : ℕ} {n : Node} {bytes : List ℕ} {s : Step} → Trail w d n bytes → s ∈ w.steps_from n
      → Trail w (d + 1) (w.enter n s) (bytes ++ step_bytes s)

-- A true route: a seed, permitted steps into the goal polygon, and the end. 20 names "32 × (2 to 4,097) bytes", so there are at most 4,095 steps.
pub record TrueRoute {Node : Type 0} (w : World Node) (file : List ℕ) : Type 0 where
  pub steps : ℕ
  pub few : steps ≤ 4095
  pub last : Node
  pub bytes : List ℕ
  pub trail : Trail w steps last bytes
  pub arrived : w.in_goal last ≡ true
  pub whole : file ≡ bytes ++ w.end_bytes last
