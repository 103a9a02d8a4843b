use Rattle.std.proofs.Common.{ap, arith}
use Rattle.stack_code.specs.Compiled.{part_need}
use Rattle.stack_code.specs.Needs.{stmts_need}
use Rattle.code_expr.specs.Contexts.{routine_of, tree_of}
use Rattle.code_stmt.proofs.RoutineParts.{handler_in, list_in}
use Rattle.code_stmt.proofs.routines.routine_need.Goals as goal

pub returns-in-None : goal.returns-in-None
returns-in-None c =
    let at = c.args.context.now in
    let list = ap (stmts_need (tree_of at) (routine_of at)) (list_in at c.routine-routine.result.now c.routine-routine.ensures) in
    let part = ap (part_need (tree_of at) (routine_of at)) (handler_in at c.routine-routine.result.now _ c.routine-routine.ensures c.in-None.is) in
    omega (arith, list, part, c.in_ok-list.ensures)

pub returns-in_ok-list_need-in-Some : goal.returns-in_ok-list_need-in-Some
returns-in_ok-list_need-in-Some c =
    let at = c.args.context.now in
    let list = ap (stmts_need (tree_of at) (routine_of at)) (list_in at c.routine-routine.result.now c.routine-routine.ensures) in
    let part = ap (part_need (tree_of at) (routine_of at)) (handler_in at c.routine-routine.result.now _ c.routine-routine.ensures c.in-Some.is) in
    omega (arith, list, part, c.in_ok-list.ensures, c.in_ok-list_need-in-Some.ensures, c.more.ensures)
