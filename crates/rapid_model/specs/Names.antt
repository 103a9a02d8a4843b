-- Names (RAPID Kernel, identifiers).
use Rattle.std.specs.Prelude.{◌≡◌, ℕ, Bool, true, not, ◌&&◌, nat_le, List, [], ◌∷◌, length}
use Rattle.std.specs.List.{list_any}
use Rattle.std.specs.Str.{str_eq_ignore_ascii_case, str_to_ascii_lowercase}
use Rattle.rapid_limits.specs.declared.TheConstants.{LONGEST_NAME}
use Rattle.rapid_num.specs.Characters.{is_name}

-- a name within the maximum length
abbrev pub is_short_name : List ℕ → Bool
is_short_name text = is_name text && nat_le (length text) LONGEST_NAME

-- the names are equal, case-insensitive
abbrev pub IsOneName : List ℕ → List ℕ → Type 0
IsOneName name other = str_to_ascii_lowercase name ≡ str_to_ascii_lowercase other

-- the name is among the names, case-insensitive
abbrev pub is_among : List ℕ → List (List ℕ) → Bool
is_among name names = list_any (str_eq_ignore_ascii_case name) names

-- no two of the names are equal, case-insensitive
abbrev pub differ : List (List ℕ) → Bool
differ [] = true
differ (name ∷ names) = not (is_among name names) && differ names
