-- Modules as contracts see them.
use Rattle.std.specs.Prelude.{ℕ, List, map, String, Vec, string_bytes}
use Rattle.std.specs.declared.alloc.Global.{Global}

-- a name and bytes
abbrev pub view_module : String Global × Vec ℕ Global → List ℕ × List ℕ
view_module m = (string_bytes m.0, m.1.items)

abbrev pub view_modules : List (String Global × Vec ℕ Global) → List (List ℕ × List ℕ)
view_modules modules = map view_module modules
