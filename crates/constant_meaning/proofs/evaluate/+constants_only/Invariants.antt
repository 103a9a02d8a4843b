use Rattle.std.proofs.Common.{◌≡◌, map, drop}
use Rattle.typed_trees.specs.Plain.{exprs_of, steps_of}
use Rattle.typed_trees.specs.Views.{view_expr, view_step}
use Rattle.constant_meaning.specs.Constants.{are_constant, are_constant_steps, elements_of}
use Rattle.constant_meaning.proofs.evaluate.+constants_only.Given as goal

abbrev pub invariant-are_constant-loop-component : goal.invariant-are_constant-loop-component
invariant-are_constant-loop-component l =
    are_constant (elements_of l.arrays) (exprs_of (map view_expr (drop l.component-index l.component-items)))
    ≡ are_constant (elements_of l.arrays) (exprs_of (map view_expr l.component-items))

abbrev pub invariant-are_constant_steps-loop-right : goal.invariant-are_constant_steps-loop-right
invariant-are_constant_steps-loop-right l =
    are_constant_steps (elements_of l.arrays) (steps_of (map view_step (drop l.right-index l.right-items)))
    ≡ are_constant_steps (elements_of l.arrays) (steps_of (map view_step l.right-items))
