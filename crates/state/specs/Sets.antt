-- Sets of rows as numbers, bit k for the row at k. Assumes nothing.
use Rattle.std.specs.Prelude.{ℕ, ◌-◌, ◌/◌, ◌^◌}
use Rattle.std.specs.Int.Count.{count_trailing_zeros}

-- the rows that are not in the set
abbrev pub others : ℕ → ℕ
others set = 65535 - set

-- the rows below n
abbrev pub known : ℕ → ℕ
known n = 65535 / 2 ^ (16 - n)

-- the lowest row of the set, 16 where it is empty
abbrev pub least : ℕ → ℕ
least set = count_trailing_zeros 16 set
