-- How contracts see a shelf in memory.
use Rattle.std.specs.Prelude.{ℕ, List, [], ◌∷◌, map, Bool, true, not, ◌&&◌, bytes_eq, String, Vec, string_bytes}
use Rattle.std.specs.List.{list_any}
use Rattle.std.specs.declared.alloc.Global.{Global}
use Rattle.outside.specs.Told.{Told}

-- the reported state, and the number of faults
pub record MemoryShelfState : Type 0 where
  pub told : Told
  pub faults : ℕ

-- names and contents
abbrev pub files_of : List (String Global × Vec ℕ Global) → List (List ℕ × List ℕ)
files_of files = map (λ f. (string_bytes f.0, f.1.items)) files

-- no two names are equal
abbrev pub names_differ : List (List ℕ × List ℕ) → Bool
names_differ [] = true
names_differ (file ∷ files) = not (list_any (λ other. bytes_eq file.0 other.0) files) && names_differ files
