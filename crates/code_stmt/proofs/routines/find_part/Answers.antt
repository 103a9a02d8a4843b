use Rattle.std.proofs.Common.{◌++◌, sym, ap, ◌∙◌}
use Rattle.stack_code.specs.Compiled.{part_labels}
use Rattle.code_expr.specs.Contexts.{routine_of, tree_of}
use Rattle.code_stmt.specs.Sizing.{part_sizes}
use Rattle.code_stmt.proofs.Labels.{labels_found}
use Rattle.code_stmt.proofs.RoutineParts.{handler_in}
use Rattle.code_stmt.proofs.Sizings.{none_found}
use Rattle.code_stmt.proofs.routines.find_part.Goals as goal

pub returns-in-None-clause-labels : goal.returns-in-None-clause-labels
returns-in-None-clause-labels c =
    let at = c.args.context.now in
    none_found _ _ (ap (part_labels (tree_of at) (routine_of at) c.args.part) (handler_in at c.routine.result.now _ c.routine.ensures c.in-None.is))

pub returns-in-None-clause-sizes : goal.returns-in-None-clause-sizes
returns-in-None-clause-sizes c =
    let at = c.args.context.now in
    none_found _ _ (ap (part_sizes (tree_of at) (routine_of at)) (handler_in at c.routine.result.now _ c.routine.ensures c.in-None.is))

pub returns-in_ok-_past-in-Some-clause-labels : goal.returns-in_ok-_past-in-Some-clause-labels
returns-in_ok-_past-in-Some-clause-labels c =
    let at = c.args.context.now in
    let old = c.args.labels.now.items in
    labels_found old c.behind_list.new.labels.items c.args.part _ _ _ c.in_ok-_past-in-Some.ensures.passed
    ∙ ap (λ h. old ++ part_labels (tree_of at) (routine_of at) c.args.part h) (sym (handler_in at c.routine.result.now _ c.routine.ensures c.in-Some.is))

pub returns-in_ok-_past-in-Some-clause-sizes : goal.returns-in_ok-_past-in-Some-clause-sizes
returns-in_ok-_past-in-Some-clause-sizes c =
    let at = c.args.context.now in
    c.in_ok-_past-in-Some.ensures.sizes ∙ ap (λ h. c.args.sizes.now.items ++ part_sizes (tree_of at) (routine_of at) h) (sym (handler_in at c.routine.result.now _ c.routine.ensures c.in-Some.is))
