use Rattle.std.proofs.Common.{◌<◌, length, get_or, arith, ap, ◌∙◌, List}
use Rattle.std.proofs.lemmas.Result.{err_from_is_err_and}
use Rattle.rapid_model.specs.declared.task_row.TaskRow.{TaskRow}
use Rattle.run_lines.proofs.Printing.{fate_printed, fate_failed}
use Rattle.run_lines.proofs.run.print_fates.Goals as goal

pub loop-task-preserved : goal.loop-task-preserved
loop-task-preserved g c =
    let few = ap length c.rows_of-rows.ensures.rows in
    let lt : c.loop-task.task < length c.args.core.now.cell.tasks = omega (arith, few) in
    fate_printed c.args.core.now.cell c.args.core.now.history c.loop-task.task c.index-rows-task.result c.fate-fate.result _ _ _ _ lt
    (c.index-rows-task.is ∙ ap (λ (rows : List TaskRow). get_or rows c.loop-task.task c.index-rows-task.result) c.rows_of-rows.ensures.rows)
    c.fate-fate.ensures c.in_ok-print_fate.ensures c.loop-task.invariant

pub returns-in_err-print_fate : goal.returns-in_err-print_fate
returns-in_err-print_fate g c =
    let p = err_from_is_err_and c.from_residual.result c.from_residual.ensures.1 in
    let few = ap length c.rows_of-rows.ensures.rows in
    let lt : c.loop-task.task < length c.args.core.now.cell.tasks = omega (arith, few) in
    rw (p.1) (fate_failed c.args.core.now.cell c.args.core.now.history c.loop-task.task c.index-rows-task.result c.fate-fate.result _ _ _ _ lt
    (c.index-rows-task.is ∙ ap (λ (rows : List TaskRow). get_or rows c.loop-task.task c.index-rows-task.result) c.rows_of-rows.ensures.rows)
    c.fate-fate.ensures c.in_err-print_fate.ensures c.loop-task.invariant)
