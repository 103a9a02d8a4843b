-- Lists that lie one after the other in one list, and the indexes at which they begin, that of the last list first.
use Rattle.std.specs.Prelude.{ℕ, ◌≡◌, ◌≤◌, List, [], ◌∷◌}

-- in a list of this length the first begins at 0, and each begins where the one below it ends
abbrev pub IsCut : ℕ → List ℕ → Type 0
IsCut len [] = len ≡ 0
IsCut len (base ∷ below) = (base ≤ len) × IsCut base below
