use Rattle.std.proofs.Common.{◌≡◌, true, map, drop}
use Rattle.std.specs.List.{list_all}
use Rattle.typed_trees.specs.Plain.{exprs_of}
use Rattle.typed_trees.specs.Views.{view_expr}
use Rattle.constant_meaning.specs.Constants.{constant_values, elements_of}
use Rattle.constant_meaning.proofs.Lists.{behind}
use Rattle.rapid_model.specs.Sorts.{is_value_of}
use Rattle.named_data.specs.Views.{view_site}
use Rattle.decl_types.specs.Values.{values_or_fault}
use Rattle.decl_types.proofs.arrays.values_or_fault.Given as goal

abbrev pub invariant-loop-element : goal.invariant-loop-element
invariant-loop-element l = record {
  fit : list_all (is_value_of l.sort) l.values.items ≡ true;
  rest :
      values_or_fault (view_site l.site) l.at l.sort (behind l.values.items (constant_values (elements_of l.known) (exprs_of (map view_expr (drop l.element-index l.elements)))))
      ≡ values_or_fault (view_site l.site) l.at l.sort (constant_values (elements_of l.known) (exprs_of (map view_expr l.elements)));
}
