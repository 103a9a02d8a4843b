-- Labels appended to those found before.
use Rattle.std.specs.Prelude.{ℕ, List, ◌++◌}
use Rattle.code_expr.specs.Follows.{Follows}

-- There are `size` operations from one place to another, and the places of their labels, by the place at which they
-- begin, are appended to others.
abbrev pub Passes : List ℕ → List ℕ → ℕ → ℕ → ℕ → (ℕ → List ℕ) → Type 0
Passes old new from to size labels = Follows (λ more. old ++ more) (λ more. new ++ more) from to size (λ pc more. labels pc ++ more)
