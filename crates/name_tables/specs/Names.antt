-- Lowercase names and the value of each.
use Rattle.std.specs.Prelude.{◌≡◌, ℕ, ◌≤◌, Bool, List, [], ◌∷◌, ◌++◌, length, Option, Some, None, is_some, if◌then◌else◌, bytes_eq}
use Rattle.std.specs.Option.{option_or}
use Rattle.std.specs.Str.{str_to_ascii_lowercase}
use Rattle.rapid_limits.specs.declared.TheConstants.{LONGEST_NAME}
use Rattle.arrayvec.specs.ArrayVec.{ArrayVec}

abbrev pub NameList : Type 0 → Type 0
NameList V = List (List ℕ × V)

-- the value of the first entry with a key
abbrev pub found_by : {V : Type 0} → List ℕ → NameList V → Option V
found_by key [] = None
found_by key (entry ∷ entries) = if bytes_eq key entry.0 then Some entry.1 else found_by key entries

-- the value of a name, case-insensitive
abbrev pub found_in : {V : Type 0} → List ℕ → NameList V → Option V
found_in name names = found_by (str_to_ascii_lowercase name) names

-- the names with one more; of two that are equal, the first wins
abbrev pub entered : {V : Type 0} → List ℕ → V → NameList V → NameList V
entered name value names = if is_some (found_in name names) then names else names ++ ((str_to_ascii_lowercase name, value) ∷ [])

-- an entry of a table, whose key is a lowercase name
abbrev pub entry_of : {V : Type 0} → ArrayVec ℕ × V → List ℕ × V
entry_of e = (e.0.items, e.1)

-- no name is too long
abbrev pub AreShort : {V : Type 0} → NameList V → Type 0
AreShort [] = Unit {0}
AreShort (entry ∷ entries) = (length entry.0 ≤ LONGEST_NAME) × AreShort entries

-- the table finds this value for each name
abbrev pub Finds : {V : Type 0} → NameList V → (List ℕ → Option V) → Type 0
Finds names find = (name : List ℕ) → found_in name names ≡ find name

-- the second table also has this value for the names that pass the test, unless the first table has them
abbrev pub Enters : {V : Type 0} → NameList V → NameList V → (List ℕ → Bool) → V → Type 0
Enters old new is_named value = Finds new (λ name. option_or (found_in name old) (if is_named name then Some value else None))
