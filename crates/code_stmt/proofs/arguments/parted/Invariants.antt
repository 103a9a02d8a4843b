use Rattle.std.proofs.Common.{◌≡◌, ◌++◌}
use Rattle.rapid_meaning.specs.Instructions as instructions
use Rattle.code_expr.proofs.Rows.{args_from}
use Rattle.code_stmt.specs.Views.{view_args}
use Rattle.code_stmt.proofs.arguments.parted.Given as goal

abbrev pub invariant-loop-arg : goal.invariant-loop-arg
invariant-loop-arg l = record {
  needed : view_args l.given.items ++ instructions.needed (args_from l.arg-index l.arg-items) ≡ instructions.needed (args_from 0 l.arg-items);
  options : view_args l.options.items ++ instructions.options (args_from l.arg-index l.arg-items) ≡ instructions.options (args_from 0 l.arg-items);
}
