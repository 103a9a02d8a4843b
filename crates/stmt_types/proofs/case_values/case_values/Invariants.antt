use Rattle.std.proofs.Common.{◌≡◌, map, drop}
use Rattle.raw_trees.specs.Views.{view_expr as view_raw}
use Rattle.typed_trees.specs.Plain.{MoreExprs}
use Rattle.typed_trees.specs.Views.{view_expr}
use Rattle.named_data.specs.Views.{view_site}
use Rattle.stmt_types.specs.Bodies.{case_values}
use Rattle.expr_types.proofs.Loops.{behind}
use Rattle.stmt_types.proofs.case_values.case_values.Given as goal

abbrev pub invariant-loop-value : goal.invariant-loop-value
invariant-loop-value l =
    behind MoreExprs (map view_expr l.done.items) (case_values (view_site l.site) l.sort (map view_raw (drop l.value-index l.values)))
    ≡ case_values (view_site l.site) l.sort (map view_raw l.values)
