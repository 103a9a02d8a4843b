use Rattle.std.proofs.Common.{◌≡◌, ◌++◌, drop}
use Rattle.data_scopes.specs.Rows.{scalar_rows}
use Rattle.data_scopes.proofs.routine_rows.push_scalars.Given as goal

abbrev pub invariant-loop-row : goal.invariant-loop-row
invariant-loop-row l = l.consts.items ++ scalar_rows (drop l.row-index l.locals) ≡ l.initial.consts.items ++ scalar_rows l.locals
