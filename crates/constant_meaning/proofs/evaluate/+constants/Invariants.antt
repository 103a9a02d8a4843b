use Rattle.std.proofs.Common.{◌≡◌, ◌≤◌, map, drop, take}
use Rattle.typed_trees.specs.Plain.{exprs_of, steps_of}
use Rattle.typed_trees.specs.Views.{view_expr, view_step}
use Rattle.constant_meaning.specs.Constants.{along, constant_values, elements_of, made}
use Rattle.constant_meaning.proofs.Lists.{behind}
use Rattle.constant_meaning.proofs.evaluate.+constants.Given as goal

abbrev pub invariant-aggregate-loop-component : goal.invariant-aggregate-loop-component
invariant-aggregate-loop-component l = record {
  bound : l.count ≤ 7;
  rest : made l.sort (behind (take l.count l.values) (constant_values (elements_of l.arrays) (exprs_of (map view_expr (drop l.component-index l.component-items)))))
      ≡ made l.sort (constant_values (elements_of l.arrays) (exprs_of (map view_expr l.component-items)));
}

abbrev pub invariant-chain-loop-operator : goal.invariant-chain-loop-operator
invariant-chain-loop-operator l =
    along (elements_of l.arrays) l.left (steps_of (map view_step (drop l.operator-index l.operator-items)))
    ≡ along (elements_of l.arrays) l.fn.first (steps_of (map view_step l.operator-items))
