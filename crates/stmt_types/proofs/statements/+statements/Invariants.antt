use Rattle.std.proofs.Common.{◌≡◌, map, drop}
use Rattle.raw_trees.specs.Plain.{arms_of as raw_arms_of, cases_of as raw_cases_of, stmts_of as raw_stmts_of}
use Rattle.raw_trees.specs.Views.{view_arm as view_raw_arm, view_case as view_raw_case, view_stmt as view_raw_stmt}
use Rattle.typed_trees.specs.Views.{view_stmt}
use Rattle.named_data.specs.Views.{view_site}
use Rattle.stmt_types.specs.Bodies.{branches, choices, stmts}
use Rattle.stmt_types.specs.Views.{view_around, view_body}
use Rattle.expr_types.proofs.Loops.{behind}
use Rattle.stmt_types.proofs.Lists.{arm_front, case_front, more_arms, more_cases, more_stmts}
use Rattle.stmt_types.proofs.statements.+statements.Given as goal

abbrev pub invariant-stmts-loop-raw : goal.invariant-stmts-loop-raw
invariant-stmts-loop-raw l =
    behind more_stmts (map view_stmt l.done.items) (stmts (view_body l.body) (raw_stmts_of (map view_raw_stmt (drop l.raw-index l.raw-items))) (view_around l.around) l.number)
    ≡ stmts (view_body l.body) (raw_stmts_of (map view_raw_stmt l.raw-items)) (view_around l.around) l.next

abbrev pub invariant-branches-loop-test : goal.invariant-branches-loop-test
invariant-branches-loop-test l =
    behind more_arms (map arm_front l.done.items) (branches (view_body l.body) (raw_arms_of (map view_raw_arm (drop l.test-index l.test-items))) (view_site l.site) (view_around l.around) l.number)
    ≡ branches (view_body l.body) (raw_arms_of (map view_raw_arm l.test-items)) (view_site l.site) (view_around l.around) l.next

abbrev pub invariant-choices-loop-values : goal.invariant-choices-loop-values
invariant-choices-loop-values l =
    behind more_cases (map case_front l.done.items) (choices (view_body l.body) (raw_cases_of (map view_raw_case (drop l.values-index l.values-items))) (view_site l.site) l.sort (view_around l.around) l.number)
    ≡ choices (view_body l.body) (raw_cases_of (map view_raw_case l.values-items)) (view_site l.site) l.sort (view_around l.around) l.next
