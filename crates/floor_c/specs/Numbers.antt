-- The numbers that come back to C from a look at a floor. Rests on the definitions of `floor`. Assumes nothing.
use Rattle.std.specs.Prelude.{ℕ, Bool, cond, ltb, Result, Ok, Err}
use Rattle.told.specs.Told.{number_of}
use Rattle.floor.specs.declared.Refusal.{Refusal}
use Rattle.plan.specs.Plan.{most_vertices}
use Rattle.stored.specs.Stored.{Floor}
use Rattle.edges.specs.Where.{is_turn}
use Rattle.floor.specs.Look.{refusal_told}

-- 01's table: "0 .. accepted", else the refusal's number
unfoldable pub look_number : Result Unit Refusal → ℕ
look_number (Ok tt) = 0
look_number (Err r) = number_of (refusal_told r)

-- "A turn vertex is one on a wall edge": which vertices turn
abbrev pub marks_of : Floor → ℕ → Bool
marks_of f v = is_turn f v

-- 1 at a turn vertex, 0 at every other number
unfoldable pub mark_number : (ℕ → Bool) → ℕ → ℕ
mark_number marks v = cond (ltb v most_vertices) (cond (marks v) 1 0) 0

unfoldable pub turn_number : Result Unit Refusal → ℕ → ℕ
turn_number (Ok tt) mark = mark
turn_number (Err r) mark = number_of (refusal_told r)
