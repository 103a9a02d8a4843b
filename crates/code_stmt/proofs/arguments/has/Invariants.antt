use Rattle.std.proofs.Common.{◌≡◌, drop}
use Rattle.rapid_meaning.specs.Instructions.{has}
use Rattle.code_stmt.specs.Views.{view_args}
use Rattle.code_stmt.proofs.arguments.has.Given as goal

abbrev pub invariant-loop-option : goal.invariant-loop-option
invariant-loop-option l = has l.name (view_args (drop l.option-index l.options)) ≡ has l.name (view_args l.options)
