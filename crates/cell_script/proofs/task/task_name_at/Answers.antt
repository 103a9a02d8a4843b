use Rattle.std.proofs.Common.{true, false, map, sym, ◌∙◌}
use Rattle.rapid_model.specs.declared.script_rule.ScriptRule.TheVariants.{Twice}
use Rattle.cell_script.specs.Keys.{at}
use Rattle.cell_script.specs.Gives.{view_keys}
use Rattle.toml.specs.View.{view}
use Rattle.cell_script.proofs.Faults.{Fails-broken}
use Rattle.cell_script.proofs.Named.{new_name, task_name_by}
use Rattle.cell_script.proofs.task.task_name_at.Goals as goal

pub returns-then-is_task : goal.returns-then-is_task
returns-then-is_task c =
    let key = at (view_keys c.args.keys.now) c.args.key.now in
    Fails-broken _ key Twice _ c.broken.ensures
    (task_name_by key (map (λ task. task.name) c.args.others.now) (view c.args.value.now) c.in_ok-name.name true c.in_ok-name.ensures
    (sym (new_name key (λ task. task.name) c.args.others.now c.in_ok-name.name c.bytes.result.now true c.bytes.ensures.same (sym c.if-is_task.true ∙ c.is_task.ensures))))

pub returns : goal.returns
returns c =
    let key = at (view_keys c.args.keys.now) c.args.key.now in
    task_name_by key (map (λ task. task.name) c.args.others.now) (view c.args.value.now) c.in_ok-name.name false c.in_ok-name.ensures
    (sym (new_name key (λ task. task.name) c.args.others.now c.in_ok-name.name c.bytes.result.now false c.bytes.ensures.same (sym c.if-is_task.false ∙ c.is_task.ensures)))
