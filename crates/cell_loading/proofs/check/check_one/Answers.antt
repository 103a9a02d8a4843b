use Rattle.std.proofs.Common.{ℕ, length, take, refl, ap, ◌∙◌, Ok}
use Rattle.typed_trees.specs.Views.{view_tree}
use Rattle.cell_loading.specs.Loaded.{reads_in}
use Rattle.cell_loading.proofs.Checking.{one_checked, one_refused}
use Rattle.cell_loading.proofs.check.check_one.Goals as goal

pub returns-in-Ok : goal.returns-in-Ok
returns-in-Ok c =
    one_checked c.args.script.now c.args.task.now (take (length c.args.task.now.modules) (reads_in c.args.modules.now)) c.first_modules-own.result c.args.names.now c.as_slice.result.now c.args.task.now.axes
    (Ok (view_tree c.in-Ok.tree)) c.first_modules-own.ensures.paired (c.first_modules-own.ensures.taken ∙ ap (λ (n : ℕ). take n (reads_in c.args.modules.now)) c.len.ensures) c.requires.names (c.as_slice.ensures ∙ c.signals.ensures) refl c.in-Ok.ensures.gives

pub returns-in-Err : goal.returns-in-Err
returns-in-Err c =
    one_refused c.args.script.now c.args.task.now (take (length c.args.task.now.modules) (reads_in c.args.modules.now)) c.first_modules-own.result c.args.names.now c.as_slice.result.now c.args.task.now.axes
    c.in-Err.fault c.fault_refusal.result c.first_modules-own.ensures.paired (c.first_modules-own.ensures.taken ∙ ap (λ (n : ℕ). take n (reads_in c.args.modules.now)) c.len.ensures) c.requires.names (c.as_slice.ensures ∙ c.signals.ensures) refl c.in-Err.ensures.gives c.fault_refusal.ensures
