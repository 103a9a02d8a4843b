-- The numbers that wait for their traps.
use Rattle.std.specs.Prelude.{ℕ, ◌==◌, if◌then◌else◌, List, [], ◌∷◌, ◌++◌}

-- the first number goes to the end, or out of the queue if it is that number
abbrev pub turned : ℕ → List ℕ → List ℕ
turned number [] = []
turned number (first ∷ rest) = if first == number then rest else rest ++ first ∷ []
