-- A number as people write it: its decimal digits in ASCII, and how they are read. Assumes nothing.
use Rattle.std.specs.Prelude.{ℕ, zero, suc, ◌+◌, ◌*◌, ◌-◌, ◌/◌, ◌%◌, cond, List, [], ◌∷◌, ◌++◌, ltb}

-- below 10 one digit; else the digits of a tenth, then the last digit. The first number bounds how often a tenth is taken.
unfoldable pub decimal_within : ℕ → ℕ → List ℕ
decimal_within zero n = []
decimal_within (suc more) n = cond (ltb n 10) ((48 + n) ∷ []) (decimal_within more (n / 10) ++ ((48 + n % 10) ∷ []))

-- a number's digits, the most significant first, with no 0 in front; 0 itself is one digit. The bound is never met.
unfoldable pub decimal_of : ℕ → List ℕ
decimal_of n = decimal_within (suc n) n

-- the number that digits stand for, behind a number that was read already
unfoldable pub read_behind : ℕ → List ℕ → ℕ
read_behind read [] = read
read_behind read (digit ∷ more) = read_behind (read * 10 + (digit - 48)) more
