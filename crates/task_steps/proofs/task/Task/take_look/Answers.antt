use Rattle.std.proofs.Common.{sym, subst}
use Rattle.rapid_model.specs.declared.answer.Answer.TheVariants as answers
use Rattle.task_code.specs.Leads.{Runs}
use Rattle.stack_code.specs.CodeData.{CodeData}
use Rattle.stack_code.specs.Steps.{looked}
use Rattle.task_steps.specs.Doing.{came, here_of}
use Rattle.task_steps.specs.Seen.{Seen}
use Rattle.task_steps.specs.Tasks.{seen_task}
use Rattle.task_steps.proofs.Along.{alike_then, runs_along}
use Rattle.task_steps.proofs.Calls.{look_goes}
use Rattle.task_steps.proofs.task.Task.take_look.Goals as goal

pub go_next-requires : goal.go_next-requires
go_next-requires c =
    let code = c.args.loaded.now in
    let t = seen_task c.self.inside in
    let here : Runs code (looked (here_of code c.args.self.now.conf) (answers.Go c.in-Go.seen)) c.args.self.now.data' = rw c.in-Go.is at c.requires.runs in
    let runs = subst (λ (s : Seen). Runs code (looked (here_of code s.conf) (answers.Go c.in-Go.seen)) s.data') (sym c.self.view_is) here in
    record { runs = rw (c.code.ensures, c.set_seen.ensures) (runs_along code _ _ _ _ (look_goes code (here_of code t.conf) c.in-Go.seen t.data') runs) }

pub returns-in-Go-clause-on : goal.returns-in-Go-clause-on
returns-in-Go-clause-on c =
    let code = c.args.loaded.now in
    let t = seen_task c.self.inside in
    rw (c.in-Go.is, c.go_next.ensures, ← c.self.view_is, c.set_seen.ensures) (look_goes code (here_of code t.conf) c.in-Go.seen t.data')

pub commit-requires-clause-runs : goal.commit-requires-clause-runs
commit-requires-clause-runs c =
    let code = c.args.loaded.now in
    let runs = subst (λ (s : Seen). Runs code (looked (here_of code s.conf) c.args.answer) s.data') (sym c.self.view_is) c.requires.runs in
    subst (λ (read : CodeData). Runs read (came (here_of read c.looked-done.new.self.conf) c.looked-done.result) c.looked-done.new.self.data') (sym c.code-in_default.ensures)
    (runs_along code _ _ _ _ c.looked-done.ensures.turns runs)

pub returns-in_default-clause-on : goal.returns-in_default-clause-on
returns-in_default-clause-on c =
    let code = c.args.loaded.now in
    rw (← c.self.view_is) (alike_then code _ _ _ _ _ _ c.looked-done.ensures.turns (rw c.code-in_default.ensures at c.commit.ensures.on))
