use Rattle.std.proofs.Common.{◌≡◌, ◌+◌, ◌≤◌, map, drop}
use Rattle.raw_trees.specs.Plain.{args_of}
use Rattle.raw_trees.specs.Views.{view_arg as view_raw_arg}
use Rattle.expr_types.specs.Calls.{needed_in}
use Rattle.expr_types.proofs.rules.needed_in.Given as goal

abbrev pub invariant-loop-arg : goal.invariant-loop-arg
invariant-loop-arg l = record {
  bound : l.count ≤ l.arg-index;
  rest : l.count + needed_in (args_of (map view_raw_arg (drop l.arg-index l.args))) ≡ needed_in (args_of (map view_raw_arg l.args));
}
