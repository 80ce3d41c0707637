-- How the route's bytes are put into the output: the end, then the steps down the chain of parents, then the seed. proofs/Written says that what stands there
-- then is the route. Definitions only. Assumes nothing.
use Rattle.std.specs.Prelude.{ℕ, zero, suc, ◌+◌, ◌*◌, ◌≤◌, ◌<◌, ◌^◌, List, Float, length}
use Rattle.route.specs.Record.{step_bytes, put_record}
use Rattle.machine.specs.declared.Finish.{Finish}
use Rattle.machine.specs.declared.Finish.TheVariants.{Arrived, Emptied, Filled, Stopped, Crowded}
use Rattle.places.specs.Layout.{floats_per_place, words_per_place, node_in, step_in, parent_in, depth_in}

-- the steps of the chain that ends at place i, the last one as the record of that number, each before it one lower
unfoldable pub put_chain : List Float → List ℕ → ℕ → ℕ → List ℕ → List ℕ
put_chain floats words zero i out = out
put_chain floats words (suc depth) i out = put_chain floats words depth (parent_in words i) (put_record out (suc depth) (step_bytes (step_in floats words i)))

-- ---- below the door

-- place i has its rows
pub record Row (floats : List Float) (words : List ℕ) (i : ℕ) : Type 0 where
  pub in_floats : (i + 1) * floats_per_place ≤ length floats
  pub in_words : (i + 1) * words_per_place ≤ length words

-- so has every place of the chain that ends there
abbrev pub ChainLies : List Float → List ℕ → ℕ → ℕ → Type 0
ChainLies floats words zero i = Unit {0}
ChainLies floats words (suc depth) i = Row floats words i × ChainLies floats words depth (parent_in words i)

-- a route can be told from place i
pub record Tellable (floats : List Float) (words : List ℕ) (i : ℕ) : Type 0 where
  pub row : Row floats words i
  pub parent_row : (parent_in words i + 1) * words_per_place ≤ length words
  pub lies : ChainLies floats words (depth_in words i) i
  pub points_few : (node_in floats words i).points + 2 < 2 ^ 32

-- where a search ended it can be told
abbrev pub Tells : List Float → List ℕ → Finish → Type 0
Tells floats words (Arrived i) = Tellable floats words i
Tells floats words Emptied = Unit {0}
Tells floats words Filled = Unit {0}
Tells floats words Stopped = Unit {0}
Tells floats words Crowded = Unit {0}
