-- One scope for the items of a task that are not LOCAL, the signals and the predefined names.
use Rattle.std.specs.Prelude.{◌≡◌, ℕ, List, [], ◌∷◌, ◌++◌}
use Rattle.std.specs.Option.{option_or}
use Rattle.rapid_builtins.specs.Names.{instruction_rows, function_rows, type_rows, data_rows}
use Rattle.data_scopes.specs.declared.meant.Meant.{Meant}
use Rattle.data_scopes.specs.declared.meant.Meant.TheVariants as meants
use Rattle.data_scopes.specs.Scopes.{Scope, declare, meant_in, meant_predefined}

-- the scope with the names of these rows, each with what it means
unfoldable pub declare_rows : {A : Type 0} → (A → Meant) → List (List ℕ × A) → Scope → Scope
declare_rows meant [] scope = scope
declare_rows meant (row ∷ rows) scope = declare_rows meant rows (declare row.0 (meant row.1) scope)

-- the scope with the predefined names
abbrev pub declare_predefined : Scope → Scope
declare_predefined scope =
    declare_rows meants.Predefined (type_rows ++ data_rows) (declare_rows meants.Function function_rows (declare_rows meants.Instruction instruction_rows scope))

-- a name means in it what it means as an item, else as a signal, else as a predefined name
abbrev pub IsShared : Scope → Scope → Scope → Type 0
IsShared shared items signals = (name : List ℕ) → meant_in name shared ≡ option_or (meant_in name items) (option_or (meant_in name signals) (meant_predefined name))
