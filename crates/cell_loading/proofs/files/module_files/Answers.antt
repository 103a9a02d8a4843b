use Rattle.std.proofs.Common.{◌≡◌, ℕ, length, take, ap, ◌∙◌, arith}
use Rattle.std.proofs.Math.Seq.{take-length}
use Rattle.rapid_model.specs.ScriptData.{module_names}
use Rattle.cell_loading.specs.Loaded.{names_in_turn}
use Rattle.cell_loading.proofs.ModuleFiles.{few_files, task_pushed}
use Rattle.cell_loading.proofs.files.module_files.Goals as goal

pub loop-task-preserved : goal.loop-task-preserved
loop-task-preserved c =
    task_pushed (names_in_turn c.push_files.new.found.items) (names_in_turn c.loop-task.found.items) c.as_slice-tasks.result.now c.loop-task.task-index c.task-item.result c.loop-task-test.true c.task-item.is
    c.in_ok-push_files.ensures c.loop-task.invariant

pub returns-clause-few : goal.returns-clause-few
returns-clause-few c =
    let all : c.loop-task.task-index ≡ length c.as_slice-tasks.result.now = omega arith in
    let is : names_in_turn c.loop-task.found.items ≡ module_names c.args.script.now.tasks =
    c.loop-task.invariant ∙ ap (λ (n : ℕ). module_names (take n c.as_slice-tasks.result.now)) all ∙ ap module_names (take-length c.as_slice-tasks.result.now ∙ c.as_slice-tasks.ensures ∙ c.tasks.ensures) in
    few_files c.args.script.now c.loop-task.found.items c.steps-steps.ensures.limits is
