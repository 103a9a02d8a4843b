-- The options among the arguments of an instruction.
use Rattle.std.specs.Prelude.{ℕ, Bool, true, false, List, bytes_eq}
use Rattle.typed_trees.specs.Plain.{TypedArg, Optional}

abbrev pub is_option : TypedArg → Bool
is_option (Optional name value) = true
is_option arg = false

abbrev pub is_named : List ℕ → TypedArg → Bool
is_named name (Optional other value) = bytes_eq other name
is_named name arg = false
