-- Document 01, "The route file": "A reader walks the caller's route bytes one record at a time." What it sees at a record and where it goes from there.
-- Rests on the records of `route`. Definitions only. Assumes nothing.
use Rattle.std.specs.Prelude.{ℕ, zero, suc, ◌+◌, ◌-◌, Bool, cond, List, eqb}
use Rattle.std.specs.Borrow.{Bor}
use Rattle.route.specs.Record.{record_at, records}
use Rattle.route.specs.Judge.{same_bytes}
use Rattle.records.specs.declared.Record.{Record}
use Rattle.records.specs.Records.{record_bytes}
use Rattle.reader.specs.declared.Reader.{Reader}

-- ---- a file and a record's number

-- "A record is right only when all its bytes are": a file that ends before them has no such record.
unfoldable pub is_record : List ℕ → ℕ → Record → Bool
is_record file i sought = same_bytes (record_at file i) (record_bytes sought)

-- how many whole records there are from this number on
unfoldable pub records_from : List ℕ → ℕ → ℕ
records_from file i = records file - i

-- "one record at a time": the number after this one; where no record is left it stays
unfoldable pub number_after : List ℕ → ℕ → ℕ
number_after file i = cond (eqb (records_from file i) 0) i (i + 1)

-- ---- a reader

-- the reader of a file at its first record; records are counted from 0
abbrev pub first_of : Bor (List ℕ) → Reader
first_of route = record { route = route; number = 0 }

-- the reader of the same file at the next record
abbrev pub next_of : Reader → Reader
next_of r = record { route = r.route; number = number_after r.route.now r.number }

-- the reader of a file after so many records
unfoldable pub passed : Bor (List ℕ) → ℕ → Reader
passed route zero = first_of route
passed route (suc k) = next_of (passed route k)
