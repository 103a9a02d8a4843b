use Rattle.std.proofs.Common.{◌≡◌, ◌<◌, ℕ, ◌+◌, List, length, get_or, drop, ap, sym, ◌∙◌, subst}
use Rattle.rapid_model.specs.declared.script_task.ScriptTask.{ScriptTask}
use Rattle.typed_trees.specs.declared.tree.Tree.{Tree}
use Rattle.cell_loading.specs.Loaded.{reads_in}
use Rattle.cell_loading.proofs.Checking.{Checking, checking_more}
use Rattle.cell_loading.proofs.check.check_tasks.Goals as goal

pub loop-task-preserved : goal.loop-task-preserved
loop-task-preserved c =
    let same : c.as_slice-tasks.result.now ≡ c.args.script.now.tasks = c.as_slice-tasks.ensures ∙ c.tasks.ensures in
    let lt : c.loop-task.task-index < length c.args.script.now.tasks = subst (λ (ts : List ScriptTask). c.loop-task.task-index < length ts) same c.loop-task-test.true in
    let is : c.task-item.result ≡ get_or c.args.script.now.tasks c.loop-task.task-index c.task-item.result =
    c.task-item.is ∙ ap (λ (ts : List ScriptTask). get_or ts c.loop-task.task-index c.task-item.result) same in
    subst (λ (ts : List Tree). Checking c.args.script.now (reads_in c.args.modules.now) (c.loop-task.task-index + 1) ts c.later_modules-rest.result) (sym c.in_ok-push.ensures.items)
    (checking_more c.args.script.now (reads_in c.args.modules.now) c.loop-task.task-index c.loop-task.trees.items c.in_ok-tree.tree c.loop-task.rest c.later_modules-rest.result c.task-item.result
    lt is c.loop-task.invariant c.in_ok-tree.ensures c.later_modules-rest.ensures.paired (c.later_modules-rest.ensures.dropped ∙ ap (λ (n : ℕ). drop n (reads_in c.loop-task.rest)) c.len.ensures))
