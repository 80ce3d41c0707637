-- How the root is worked out: the number under it as m * 2 ^ j with an m of 24 digits, half of whose places the root drops. What the private functions
-- say of each other; no caller of `root` meets any of it. Assumes nothing.
use Rattle.std.specs.Prelude.{ℕ, ◌+◌, ◌-◌, ◌*◌, ◌/◌, ◌^◌, ◌≤◌, ◌<◌, ◌≡◌}

-- m and j write n: m has 24 digits, and j leaves the root some to drop
pub record Scale (n m j : ℕ) : Type 0 where
  pub low : 2 ^ 23 ≤ m
  pub high : m < 2 ^ 24
  pub far : 23 ≤ j
  pub near : j < 410
  pub same : n ≡ m * 2 ^ j

-- how many digits the root of m * 2 ^ j drops, and the number that is left: m with 23 or 24 zeros behind it
abbrev pub dropped_by : ℕ → ℕ
dropped_by j = (j - 23) / 2

abbrev pub left : ℕ → ℕ → ℕ
left m j = m * 2 ^ (j - 2 * dropped_by j)

-- q is the whole number nearest to the root of n: the root lies between q less a half and q and a half
pub record Close (n q : ℕ) : Type 0 where
  pub low : q * q < n + q
  pub high : n ≤ q * q + q
