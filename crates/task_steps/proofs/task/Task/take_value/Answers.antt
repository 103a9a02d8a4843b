use Rattle.std.proofs.Common.{refl, sym, subst}
use Rattle.rapid_model.specs.declared.answer.Answer.TheVariants as answers
use Rattle.rapid_meaning.specs.Doings.{after}
use Rattle.task_code.specs.Leads.{Runs}
use Rattle.task_steps.specs.Doing.{answered, here_of}
use Rattle.task_steps.specs.Seen.{Seen}
use Rattle.task_steps.specs.Tasks.{seen_task}
use Rattle.task_steps.specs.declared.requests.pending.Pending.TheVariants as pendings
use Rattle.task_steps.proofs.Along.{alike_is, alike_then}
use Rattle.task_steps.proofs.task.Task.take_value.Goals as goal

pub put_value-requires-clause-runs : goal.put_value-requires-clause-runs
unfolding after
put_value-requires-clause-runs c =
    let code = c.args.code.now in
    let here : Runs code (answered (here_of code c.args.self.now.conf) pendings.Read (answers.Val c.in-Val.value)) c.args.self.now.data' = rw c.in-Val.is at c.requires.runs in
    subst (λ (s : Seen). Runs code (answered (here_of code s.conf) pendings.Read (answers.Val c.in-Val.value)) s.data') (sym c.self.view_is) here

pub go_next-requires : goal.go_next-requires
unfolding after
go_next-requires c =
    let code = c.args.code.now in
    let here : Runs code (answered (here_of code c.args.self.now.conf) pendings.Read (answers.Val c.in-Val.value)) c.args.self.now.data' = rw c.in-Val.is at c.requires.runs in
    let runs = subst (λ (s : Seen). Runs code (answered (here_of code s.conf) pendings.Read (answers.Val c.in-Val.value)) s.data') (sym c.self.view_is) here in
    record { runs = rw c.put_value.ensures.put runs }

pub returns-in-Val-clause-on : goal.returns-in-Val-clause-on
unfolding after
returns-in-Val-clause-on c =
    let code = c.args.code.now in
    let t = seen_task c.self.inside in
    rw (c.in-Val.is, c.go_next.ensures, c.put_value.ensures.put, ← c.self.view_is) (record { same = λ left. refl })

pub commit-requires-clause-runs : goal.commit-requires-clause-runs
commit-requires-clause-runs c =
    let code = c.args.code.now in
    let runs = subst (λ (s : Seen). Runs code (answered (here_of code s.conf) pendings.Read c.args.answer) s.data') (sym c.self.view_is) c.requires.runs in
    rw (c.read.ensures (here_of code (seen_task c.self.inside).conf)) at runs

pub returns-in_default-clause-on : goal.returns-in_default-clause-on
returns-in_default-clause-on c =
    let code = c.args.code.now in
    let t = seen_task c.self.inside in
    rw (← c.self.view_is) (alike_then code _ _ _ _ _ _ (alike_is code _ _ t.data' (c.read.ensures (here_of code t.conf))) c.commit.ensures.on)
