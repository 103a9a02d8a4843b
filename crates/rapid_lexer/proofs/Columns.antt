-- Lines and columns after one more byte.
use Rattle.std.proofs.Common.{ℕ, eqb, List, length}
use Rattle.std.specs.Prelude.{reverse}
use Rattle.std.specs.List.{before_first}

-- the number of bytes since the last line feed
abbrev pub since_line : List ℕ → ℕ
since_line front = length (before_first (λ b. eqb b 10) (reverse front))
