-- A column of floats as it is lent: the f of each place. Definitions only. Assumes nothing.
use Rattle.std.specs.Prelude.{ℕ, Float}
use Rattle.queue.specs.declared.column.Column.{Column}
use Rattle.queue.specs.Words.{column}

abbrev pub f_of : Column → ℕ → Float
f_of c = column c.floats.now c.stride c.at
