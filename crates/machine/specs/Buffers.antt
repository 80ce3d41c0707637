-- What the lent work buffers hold. Definitions only. Assumes nothing.
use Rattle.std.specs.Prelude.{◌≡◌}
use Rattle.places.specs.Layout.{Work, work_of}
use Rattle.machine.specs.declared.buffers.Buffers.{Buffers}
use Rattle.machine.specs.declared.Counts.{Counts}
use Rattle.machine.specs.Search.{State, state_of}

abbrev pub work_in : Buffers → Work
work_in b = work_of b.floats.now b.words.now b.queue.now

-- with what was counted
abbrev pub state_in : Buffers → Counts → State
state_in b counts = state_of (work_in b) counts

-- they are still the slices that were lent
abbrev pub SameBuffers : Buffers → Buffers → Type 0
SameBuffers b c = (c.floats.ghost_name ≡ b.floats.ghost_name) × (c.words.ghost_name ≡ b.words.ghost_name) × (c.queue.ghost_name ≡ b.queue.ghost_name)
