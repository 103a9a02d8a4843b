use Rattle.std.proofs.Common.{◌≡◌, ◌++◌, length, map, drop}
use Rattle.raw_trees.specs.Plain.{stmts_of, arms_of, cases_of}
use Rattle.raw_trees.specs.Views.{view_stmt, view_arm, view_case}
use Rattle.data_scopes.specs.Loops.{loops_in, loops_in_arms, loops_in_cases}
use Rattle.data_scopes.proofs.loops.+loops.Given as goal

abbrev pub invariant-push_list-loop-stmt : goal.invariant-push_list-loop-stmt
invariant-push_list-loop-stmt l =
    l.rows.items ++ loops_in l.outer (length l.rows.items) (stmts_of (map view_stmt (drop l.stmt-index l.stmt-items)))
    ≡ l.initial.rows.items ++ loops_in l.outer (length l.initial.rows.items) (stmts_of (map view_stmt l.stmt-items))

abbrev pub invariant-push_loops-loop-arm : goal.invariant-push_loops-loop-arm
invariant-push_loops-loop-arm l =
    l.rows.items ++ loops_in_arms l.outer (length l.rows.items) (arms_of (map view_arm (drop l.arm-index l.arm-items)))
    ≡ l.initial.rows.items ++ loops_in_arms l.outer (length l.initial.rows.items) (arms_of (map view_arm l.arm-items))

abbrev pub invariant-push_loops-loop-case : goal.invariant-push_loops-loop-case
invariant-push_loops-loop-case l =
    l.rows.items ++ loops_in_cases l.outer (length l.rows.items) (cases_of (map view_case (drop l.case-index l.case-items)))
    ≡ l.initial.rows.items ++ loops_in_cases l.outer (length l.initial.rows.items) (cases_of (map view_case l.case-items))
