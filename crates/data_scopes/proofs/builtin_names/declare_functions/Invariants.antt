use Rattle.std.proofs.Common.{◌≡◌, map, drop}
use Rattle.data_scopes.specs.Shared.{declare_rows}
use Rattle.data_scopes.specs.declared.meant.Meant.TheVariants as meants
use Rattle.data_scopes.proofs.builtin_names.declare_functions.Given as goal

abbrev pub invariant-loop-name : goal.invariant-loop-name
invariant-loop-name l = declare_rows meants.Function (map (λ row. (row.0.now, row.1)) (drop l.name-index l.rows)) l.scope ≡ declare_rows meants.Function (map (λ row. (row.0.now, row.1)) l.rows) l.initial.scope
