use Rattle.std.proofs.Common.{◌≡◌, ◌++◌, map, drop}
use Rattle.raw_trees.specs.Plain.{arms_of, cases_of, stmts_of}
use Rattle.raw_trees.specs.Views.{view_arm, view_case, view_stmt}
use Rattle.stmt_types.specs.Labels.{labels_in, labels_in_arms, labels_in_cases}
use Rattle.stmt_types.proofs.all_labels.+labels.Given as goal

abbrev pub invariant-push_list-loop-stmt : goal.invariant-push_list-loop-stmt
invariant-push_list-loop-stmt l =
    l.labels ++ labels_in (stmts_of (map view_stmt (drop l.stmt-index l.stmt-items)))
    ≡ l.initial.labels ++ labels_in (stmts_of (map view_stmt l.stmt-items))

abbrev pub invariant-push_stmt-loop-arm : goal.invariant-push_stmt-loop-arm
invariant-push_stmt-loop-arm l =
    l.labels ++ labels_in_arms (arms_of (map view_arm (drop l.arm-index l.arm-items)))
    ≡ l.initial.labels ++ labels_in_arms (arms_of (map view_arm l.arm-items))

abbrev pub invariant-push_stmt-loop-case : goal.invariant-push_stmt-loop-case
invariant-push_stmt-loop-case l =
    l.labels ++ labels_in_cases (cases_of (map view_case (drop l.case-index l.case-items)))
    ≡ l.initial.labels ++ labels_in_cases (cases_of (map view_case l.case-items))
