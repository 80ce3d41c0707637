-- The line that the programs say of what is told, as bytes of ASCII: a number of document 01, the record that comes with it, the words. Assumes nothing.
use Rattle.std.specs.Prelude.{ℕ, cond, List, [], ◌++◌, eqb}
use Rattle.told.specs.declared.Told.{Told}
use Rattle.told.specs.declared.Told.TheVariants.{Alone, AtRecord, WithCount}
use Rattle.told.specs.Told.{number_of}
use Rattle.says.specs.Words.{bytes_of, words_of}
use Rattle.line.specs.Decimal.{decimal_of}

-- 01, "4, 5, 6, 21, 22, 23 also return the lowest record at fault": that record, or nothing
unfoldable pub record_part : Told → List ℕ
record_part (Alone number) = []
record_part (AtRecord number lowest) = bytes_of " at record " ++ decimal_of lowest
record_part (WithCount number count) = []

-- a colon before the words that say what is wrong; 0 says that nothing is
unfoldable pub gap_of : ℕ → List ℕ
gap_of number = cond (eqb number 0) (bytes_of " ") (bytes_of ": ")

-- as "22 at record 3: not a permitted step", "8: the start is in no polygon" and "0 accepted"
unfoldable pub line_of : Told → List ℕ
line_of told =
    decimal_of (number_of told) ++ record_part told ++ gap_of (number_of told) ++ words_of (number_of told) ++ bytes_of "\n"
