-- Lines and columns.
use Rattle.std.specs.Prelude.{ℕ, ◌+◌, ◌==◌, List, take, length, reverse, count_by}
use Rattle.std.specs.List.{before_first}

-- the line of a byte, from 1; lines end with a line feed
abbrev pub line_of : List ℕ → ℕ → ℕ
line_of source at = count_by (λ b. b == 10) (take at source) + 1

-- the column of a byte, from 1, in bytes: one more than the bytes since the last line feed
abbrev pub column_of : List ℕ → ℕ → ℕ
column_of source at = length (before_first (λ b. b == 10) (reverse (take at source))) + 1
