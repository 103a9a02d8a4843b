-- Modules that texts spell.
use Rattle.std.specs.Prelude.{◌≡◌, ℕ, List, Some, slice_get}
use Rattle.raw_trees.specs.Plain.{PlainModule}
use Rattle.module_parser.specs.Modules.{SpellsWithin}

-- each of the modules is spelled by a text, within this many levels of nesting
abbrev pub AreSpelled : ℕ → List PlainModule → Type 0
AreSpelled levels modules = (number : ℕ) (m : PlainModule) → slice_get modules number ≡ Some m → (source : List ℕ) × SpellsWithin levels m source
