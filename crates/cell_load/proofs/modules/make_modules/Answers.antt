use Rattle.std.proofs.Common.{◌<◌, [], ◌∷◌, length, get_or, take, arith, ap}
use Rattle.std.proofs.lemmas.List.{map-append, take_more}
use Rattle.cell_load.specs.Texts.{module_file, task_numbers}
use Rattle.cell_load.specs.Views.{view_module, view_modules}
use Rattle.cell_load.proofs.modules.make_modules.Goals as goal

pub loop-task-preserved : goal.loop-task-preserved
loop-task-preserved c =
    let at = c.loop-task.task-index in
    let within : at < length task_numbers = omega arith in
    let more = take_more task_numbers at 0 within in
    let meant = map-append (module_file c.args.moves) (take at task_numbers) (get_or task_numbers at 0 ∷ []) in
    let pushed = ap view_modules c.in_ok-push.ensures.items in
    let seen = map-append view_module c.loop-task.modules.items (c.in_ok-make_module.field-0 ∷ []) in
    cc (more, meant, pushed, seen, c.loop-task.invariant, c.in_ok-make_module.ensures)
