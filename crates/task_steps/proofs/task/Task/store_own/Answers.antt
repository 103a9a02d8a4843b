use Rattle.task_steps.specs.Doing.{here_of}
use Rattle.task_steps.proofs.Storings.{store_own}
use Rattle.task_steps.proofs.task.Task.store_own.Goals as goal

pub returns-in_err-put_own-clause-turns : goal.returns-in_err-put_own-clause-turns
returns-in_err-put_own-clause-turns c = λ code.
    let s = c.args.self.now in
    let t = c.put_own.new.self in
    let stored = store_own code (here_of code s.conf) s.data' t.data' c.args.place.root c.args.place.part c.args.new.now c.put_own.result c.requires c.put_own.ensures.data in
    rw c.from_residual.ensures (rw c.in_err-put_own.was at stored)

pub returns-clause-turns : goal.returns-clause-turns
returns-clause-turns c = λ code.
    let s = c.args.self.now in
    let t = c.put_own.new.self in
    let stored = store_own code (here_of code s.conf) s.data' t.data' c.args.place.root c.args.place.part c.args.new.now c.put_own.result c.requires c.put_own.ensures.data in
    rw c.put_own.ensures.conf (rw c.in_ok-put_own.was at stored)
