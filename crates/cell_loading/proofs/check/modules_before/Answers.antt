use Rattle.std.proofs.Common.{◌≡◌, ◌<◌, ◌+◌, ℕ, List, length, ap, sym, ◌∙◌, subst, arith}
use Rattle.std.specs.Prelude.{IsTrue}
use Rattle.std.specs.List.{list_all}
use Rattle.rapid_model.specs.ScriptData.{is_task}
use Rattle.rapid_model.specs.declared.script_task.ScriptTask.{ScriptTask}
use Rattle.rapid_model.proofs.Scripts.{few_tasks}
use Rattle.cell_loading.specs.ReadModules.{modules_before}
use Rattle.cell_loading.proofs.Checking.{counting_begins, counting_more, few_each, before_all}
use Rattle.cell_loading.proofs.check.modules_before.Goals as goal

pub loop-k-init : goal.loop-k-init
loop-k-init c = counting_begins _

pub loop-k-preserved : goal.loop-k-preserved
loop-k-preserved c =
    let same : c.as_slice-tasks.result.now ≡ c.args.script.now.tasks = c.as_slice-tasks.ensures ∙ c.tasks.ensures in
    let least = c.min-number.ensures in
    let lt : c.loop-k.k < length c.as_slice-tasks.result.now = omega (arith, least) in
    let few = few_each c.args.script.now.version c.as_slice-tasks.result.now c.loop-k.k c.index-tasks-k.result
    (subst (λ (ts : List ScriptTask). IsTrue (list_all (is_task c.args.script.now.version) ts)) (sym same) c.steps-steps.ensures.limits.tasks) lt c.index-tasks-k.is in
    counting_more c.as_slice-tasks.result.now c.loop-k.k c.loop-k.before _ c.index-tasks-k.result lt c.index-tasks-k.is few c.loop-k.invariant
    (ap (λ (n : ℕ). c.loop-k.before + n) (c.len-before.ensures ∙ ap (λ (t : ScriptTask). length t.modules) (sym c.index-tasks-k.is)))

pub returns-clause-is : goal.returns-clause-is
returns-clause-is c =
    let least = c.min-number.ensures in
    let k : c.loop-k.k ≡ c.min-number.result = omega arith in
    c.loop-k.invariant.is ∙ before_all c.as_slice-tasks.result.now c.args.number c.loop-k.k (k ∙ least)
    ∙ ap (λ (ts : List ScriptTask). modules_before ts c.args.number) (c.as_slice-tasks.ensures ∙ c.tasks.ensures)

pub returns-clause-few : goal.returns-clause-few
returns-clause-few c =
    let least = c.min-number.ensures in
    let few = c.loop-k.invariant.few in
    let same = ap length (c.as_slice-tasks.ensures ∙ c.tasks.ensures) in
    let tasks = few_tasks c.args.script.now c.steps-steps.ensures.limits in omega (arith, least, few, same, tasks)
