use Rattle.std.proofs.Common.{◌≡◌, List, length, ◌∙◌, ap, arith}
use Rattle.rapid_model.specs.declared.input_row.InputRow.{InputRow}
use Rattle.rapid_model.specs.declared.task_row.TaskRow.{TaskRow}
use Rattle.cell_core.proofs.AtStart.{Keeps-none}
use Rattle.cell_core.proofs.shared.Core.new.Goals as goal

pub invariant_of-result : goal.invariant_of-result
invariant_of-result c =
    let tasks : c.len-tasks.result ≡ length c.args.cell.tasks = c.len-tasks.ensures ∙ ap (λ (rows : List TaskRow). length rows) c.tasks.ensures in
    let inputs : c.len.result ≡ length c.args.cell.inputs = c.len.ensures ∙ ap (λ (rows : List InputRow). length rows) c.inputs.ensures in
    let pages = c.in-Ok.ensures in
    let room = c.in-Some-reserve.ensures.room in (
      rw pages (Keeps-none c.args.cell c.in-Some.boards c.steps-steps.result c.steps-steps.ensures.limits c.starts_full.ensures c.in-Some.ensures c.steps-steps.ensures.same),
      record {
        pages = rw pages (omega (arith, c.steps-steps.ensures.same, tasks, inputs));
        events = omega (arith, room.0, c.steps-steps.ensures.same, tasks, inputs);
        fates = omega (arith, room.1, tasks);
      },
      c.in-Some-reserve.ensures.none.0,
      c.in-Some-reserve.ensures.none.1,
      tasks,
    )
