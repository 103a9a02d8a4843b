use Rattle.std.proofs.Common.{refl, sym, subst}
use Rattle.rapid_model.specs.declared.answer.Answer.TheVariants as answers
use Rattle.rapid_meaning.specs.Doings.{after}
use Rattle.task_code.specs.Leads.{Runs}
use Rattle.task_steps.specs.Doing.{answered, here_of}
use Rattle.task_steps.specs.Seen.{Seen}
use Rattle.task_steps.specs.Tasks.{seen_task}
use Rattle.task_steps.specs.declared.requests.pending.Pending.TheVariants as pendings
use Rattle.task_steps.proofs.Along.{alike_is, alike_then}
use Rattle.task_steps.proofs.task.Task.take_ok.Goals as goal

pub go_next-requires : goal.go_next-requires
unfolding after
go_next-requires c =
    let code = c.args.code.now in
    let here : Runs code (answered (here_of code c.args.self.now.conf) pendings.Confirmed answers.Ok) c.args.self.now.data' = rw c.in-Ok.is at c.requires.runs in
    record { runs = subst (λ (s : Seen). Runs code (answered (here_of code s.conf) pendings.Confirmed answers.Ok) s.data') (sym c.self.view_is) here }

pub commit-requires-clause-runs : goal.commit-requires-clause-runs
commit-requires-clause-runs c =
    let code = c.args.code.now in
    let runs = subst (λ (s : Seen). Runs code (answered (here_of code s.conf) pendings.Confirmed c.args.answer) s.data') (sym c.self.view_is) c.requires.runs in
    rw (c.confirmed.ensures (here_of code (seen_task c.self.inside).conf)) at runs

pub returns-in-Ok-clause-on : goal.returns-in-Ok-clause-on
unfolding after
returns-in-Ok-clause-on c =
    let code = c.args.code.now in
    let t = seen_task c.self.inside in
    rw (c.in-Ok.is, c.go_next.ensures, ← c.self.view_is) (record { same = λ left. refl })

pub returns-in_default-clause-on : goal.returns-in_default-clause-on
returns-in_default-clause-on c =
    let code = c.args.code.now in
    let t = seen_task c.self.inside in
    rw (← c.self.view_is) (alike_then code _ _ _ _ _ _ (alike_is code _ _ t.data' (c.confirmed.ensures (here_of code t.conf))) c.commit.ensures.on)
