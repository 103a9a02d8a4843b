use Rattle.std.proofs.Common.{◌≡◌, sym, ap, subst, ◌∙◌}
use Rattle.task_code.specs.Leads.{Runs}
use Rattle.stack_code.specs.CodeData.{CodeData}
use Rattle.task_steps.specs.Doing.{answered, came, here_of}
use Rattle.task_steps.specs.Phases as phases
use Rattle.task_steps.specs.Phases.{phase_of}
use Rattle.task_steps.specs.Seen.{Seen}
use Rattle.task_steps.specs.Tasks.{seen_task}
use Rattle.task_steps.specs.declared.requests.pending.Pending.{Pending}
use Rattle.task_steps.specs.declared.steps.stage.Stage.{Stage}
use Rattle.task_steps.proofs.Along.{runs_along}
use Rattle.task_steps.proofs.task.Task.take_answer.Goals as goal

pub commit-requires-clause-runs : goal.commit-requires-clause-runs
commit-requires-clause-runs c =
    let code = c.args.loaded.now in
    let t = c.self.inside in
    let asking : c.args.self.now.phase ≡ phases.Asking t.asked t.then =
    sym (ap (λ (s : Seen). s.phase) c.self.view_is) ∙ ap (λ (stage : Stage). phase_of stage t.asked t.then) c.in-Asking.is in
    let here = subst (λ (s : Seen). Runs code (answered (here_of code s.conf) t.then c.args.answer) s.data') (sym c.self.view_is) (c.requires.runs t.asked t.then asking) in
    let runs = subst (λ (p : Pending). Runs code (answered (here_of code (seen_task t).conf) p c.args.answer) (seen_task t).data') (sym c.replace-then.ensures.value) here in
    subst (λ (read : CodeData). Runs read (came (here_of read c.answered-done.new.self.conf) c.answered-done.result) c.answered-done.new.self.data') (sym c.code.ensures)
    (runs_along code _ _ _ _ c.answered-done.ensures.turns runs)
