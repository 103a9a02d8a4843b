use Rattle.std.proofs.Common.{◌≡◌, map, drop, length}
use Rattle.raw_trees.specs.Plain.{args_of as raw_args_of, exprs_of as raw_exprs_of, steps_of as raw_steps_of}
use Rattle.raw_trees.specs.Views.{view_arg as view_raw_arg, view_expr as view_raw, view_step as view_raw_step}
use Rattle.typed_trees.specs.Plain.{MoreArgs, MoreExprs}
use Rattle.typed_trees.specs.Views.{view_arg, view_expr, view_step}
use Rattle.named_data.specs.Views.{view_site}
use Rattle.named_data.specs.Wants.{needed_components}
use Rattle.expr_types.specs.Calls.{taking}
use Rattle.expr_types.specs.Typing.{arguments, elements, steps}
use Rattle.expr_types.specs.Views.{view_signature, view_taking}
use Rattle.expr_types.proofs.Loops.{behind, more_steps}
use Rattle.expr_types.proofs.typing.+typing.Given as goal

abbrev pub invariant-arguments-loop-arg : goal.invariant-arguments-loop-arg
invariant-arguments-loop-arg l =
    behind MoreArgs (map view_arg l.done.items) (arguments (view_site l.site) (raw_args_of (map view_raw_arg (drop l.arg-index l.arg-items))) (view_taking l.left))
    ≡ arguments (view_site l.site) (raw_args_of (map view_raw_arg l.arg-items)) (taking (view_signature l.signature))

abbrev pub invariant-elements-loop-element : goal.invariant-elements-loop-element
invariant-elements-loop-element l =
    behind MoreExprs (map view_expr l.done.items) (elements (view_site l.site) (raw_exprs_of (map view_raw (drop l.element-index l.element-items))) (drop (length l.done.items) (needed_components l.want)))
    ≡ elements (view_site l.site) (raw_exprs_of (map view_raw l.element-items)) (needed_components l.want)

abbrev pub invariant-steps-loop-operator : goal.invariant-steps-loop-operator
invariant-steps-loop-operator l =
    behind more_steps (map view_step l.steps.items) (steps (view_site l.site) (raw_steps_of (map view_raw_step (drop l.operator-index l.operator-items))) l.at l.sort)
    ≡ steps (view_site l.site) (raw_steps_of (map view_raw_step l.operator-items)) l.at l.fn.left
