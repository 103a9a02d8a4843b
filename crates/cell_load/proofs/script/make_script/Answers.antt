use Rattle.std.proofs.Common.{◌<◌, length, get_or, take, arith}
use Rattle.std.specs.Prelude.{string_bytes}
use Rattle.std.proofs.lemmas.List.{flat_map_more, take_more}
use Rattle.cell_load.specs.Texts.{task_numbers, task_text}
use Rattle.cell_load.proofs.script.make_script.Goals as goal

pub loop-task-preserved : goal.loop-task-preserved
loop-task-preserved c =
    let at = c.loop-task.task-index in
    let within : at < length task_numbers = omega arith in
    let more = take_more task_numbers at 0 within in
    let joined = flat_map_more task_text (string_bytes c.in_ok-script.script) (take at task_numbers) (get_or task_numbers at 0) in
    cc (more, joined, c.loop-task.invariant, c.in_ok-push_task.ensures)
