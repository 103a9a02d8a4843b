-- Rows of owners that grow by operations.
use Rattle.std.specs.Prelude.{ℕ, ◌+◌, ◌==◌, List, [], ◌∷◌, if◌then◌else◌}
use Rattle.stack_code.specs.Compiled.{owner_row, same_own}
use Rattle.stack_code.specs.Placed.{Own, Placed, own_of}
use Rattle.stack_code.specs.declared.owner.Owner.{Owner}

-- operations of one owner from `first` to before `past`: the last row grows if it is that owner's
unfoldable pub with_row : List Owner → ℕ → ℕ → Own → List Owner
with_row [] first past own = owner_row first past own ∷ []
with_row (row ∷ []) first past own =
    if same_own own (own_of row) then owner_row row.first past (own_of row) ∷ [] else row ∷ owner_row first past own ∷ []
with_row (row ∷ next ∷ more) first past own = row ∷ with_row (next ∷ more) first past own

-- the same, if there may be none
abbrev pub with_run : List Owner → ℕ → ℕ → Own → List Owner
with_run rows first past own = if first == past then rows else with_row rows first past own

-- operations with their owners, one by one from a place on
unfoldable pub with_rows : List Owner → ℕ → List Placed → List Owner
with_rows rows pc [] = rows
with_rows rows pc (p ∷ ps) = with_rows (with_row rows pc (pc + 1) p.own) (pc + 1) ps
