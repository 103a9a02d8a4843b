use Rattle.task_steps.specs.Doing.{here_of}
use Rattle.task_steps.proofs.Storings.{set_own}
use Rattle.task_steps.proofs.task.Task.set_unless.Goals as goal

pub returns-in_err-put_own-clause-turns : goal.returns-in_err-put_own-clause-turns
returns-in_err-put_own-clause-turns c = λ code.
    let s = c.args.self.now in
    let t = c.put_own.new.self in
    let stored = set_own code (here_of code s.conf) s.data' t.data' c.args.place c.put_own.result c.requires (rw c.of_value.ensures at c.put_own.ensures.data) in
    rw (c.if-was.false, c.from_residual.ensures) (rw c.in_err-put_own.was at stored)

pub returns-clause-turns : goal.returns-clause-turns
returns-clause-turns c = λ code.
    let s = c.args.self.now in
    let t = c.put_own.new.self in
    let stored = set_own code (here_of code s.conf) s.data' t.data' c.args.place c.put_own.result c.requires (rw c.of_value.ensures at c.put_own.ensures.data) in
    rw (c.if-was.false, c.value-2.ensures, c.put_own.ensures.conf) (rw c.in_ok-put_own.was at stored)
