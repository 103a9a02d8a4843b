use Rattle.std.proofs.Common.{◌≡◌, map, drop}
use Rattle.raw_trees.specs.Plain.{exprs_of}
use Rattle.raw_trees.specs.Views.{view_expr as view_raw}
use Rattle.typed_trees.specs.Plain.{MoreExprs}
use Rattle.typed_trees.specs.Views.{view_expr}
use Rattle.named_data.specs.Views.{view_site}
use Rattle.decl_types.specs.Values.{array_elements}
use Rattle.expr_types.proofs.Loops.{behind}
use Rattle.decl_types.proofs.brackets.array_elements.Given as goal

abbrev pub invariant-loop-element : goal.invariant-loop-element
invariant-loop-element l =
    behind MoreExprs (map view_expr l.trees.items) (array_elements (view_site l.site) l.sort (exprs_of (map view_raw (drop l.element-index l.elements))))
    ≡ array_elements (view_site l.site) l.sort (exprs_of (map view_raw l.elements))
