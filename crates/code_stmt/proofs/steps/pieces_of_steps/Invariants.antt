use Rattle.std.proofs.Common.{◌≡◌, ◌++◌, drop}
use Rattle.stack_code.specs.Pieces as plain
use Rattle.code_expr.specs.Contexts.{routine_of, tree_of}
use Rattle.code_stmt.specs.Views.{view_args, view_pieces}
use Rattle.code_stmt.proofs.steps.pieces_of_steps.Given as goal

abbrev pub invariant-loop-step : goal.invariant-loop-step
invariant-loop-step l =
    let tree = tree_of l.context in
    let routine = routine_of l.context in
    view_pieces l.pieces.items ++ plain.pieces_of_steps tree routine (view_args l.args) (view_args l.options) (drop l.step-index l.steps)
    ≡ plain.pieces_of_steps tree routine (view_args l.args) (view_args l.options) l.steps
