use Rattle.std.proofs.Common.{◌≡◌, map, drop}
use Rattle.raw_trees.specs.Plain.{args_of}
use Rattle.raw_trees.specs.Views.{view_arg as view_raw_arg}
use Rattle.expr_types.specs.Calls.{zone_need}
use Rattle.expr_types.proofs.zone.zone_need.Given as goal

abbrev pub invariant-loop-arg : goal.invariant-loop-arg
invariant-loop-arg l = zone_need (args_of (map view_raw_arg (drop l.arg-index l.args))) ≡ zone_need (args_of (map view_raw_arg l.args))
