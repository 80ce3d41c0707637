-- Document 01, "Each number is given exactly in its case": what each of the judge's verdicts says of a file, in words of trails and of the records'
-- bytes, over any world. Definitions only. Assumes nothing.
use Rattle.std.specs.Prelude.{ℕ, ◌+◌, ◌*◌, ◌≤◌, ◌<◌, ◌≡◌, false, List, ◌⊎◌, Result, Ok, Err, length, take}
use Rattle.route.specs.declared.Step.{Step}
use Rattle.route.specs.declared.Fault.{Fault}
use Rattle.route.specs.declared.Fault.TheVariants.{Length, NotSeed, NotStep, NotEnd}
use Rattle.route.specs.Record.{record_at, step_bytes}
use Rattle.route.specs.World.{World, ◌∈◌, Trail, TrueRoute}

-- "32 × (2 to 4,097) bytes"
pub record RouteLength (file : List ℕ) : Type 0 where
  pub records : ℕ
  pub least : 2 ≤ records
  pub most : records ≤ 4097
  pub whole : length file ≡ 32 * records

-- The records before this one are a seed and permitted steps, and this is the node that they lead to.
pub record LeadsTo {Node : Type 0} (w : World Node) (file : List ℕ) (k : ℕ) (node : Node) : Type 0 where
  pub steps : ℕ
  pub count : k ≡ steps + 1
  pub trail : Trail w steps node (take (k * 32) file)

-- "21: first record is not the seed"
pub record SeedFault {Node : Type 0} (w : World Node) (file : List ℕ) : Type 0 where
  pub long : RouteLength file
  pub wrong : record_at file 0 ≡ w.seed_bytes → ⊥

-- "22: a middle record is not a permitted step": the lowest such record, since those before it lead to a node.
pub record StepFault {Node : Type 0} (w : World Node) (file : List ℕ) (k : ℕ) : Type 0 where
  pub long : RouteLength file
  pub middle : k + 1 < long.records
  pub node : Node
  pub before : LeadsTo w file k node
  pub wrong : (s : Step) → s ∈ w.steps_from node → record_at file k ≡ step_bytes s → ⊥

-- "23: last record is not the true end, or the one before it is not in the goal polygon"
pub record EndFault {Node : Type 0} (w : World Node) (file : List ℕ) (k : ℕ) : Type 0 where
  pub long : RouteLength file
  pub last : k + 1 ≡ long.records
  pub node : Node
  pub before : LeadsTo w file k node
  pub wrong : (w.in_goal node ≡ false) ⊎ (record_at file k ≡ w.end_bytes node → ⊥)

-- what a verdict says of a file
abbrev pub Case : {Node : Type 0} → World Node → List ℕ → Result Unit Fault → Type 0
Case w file (Ok tt) = TrueRoute w file
Case w file (Err Length) = RouteLength file → ⊥
Case w file (Err NotSeed) = SeedFault w file
Case w file (Err (NotStep k)) = StepFault w file k
Case w file (Err (NotEnd k)) = EndFault w file k
