use Rattle.std.proofs.Common.{◌≡◌, sym, ap, subst}
use Rattle.rapid_meaning.specs.Data.{Data}
use Rattle.stack_code.specs.Steps.{act}
use Rattle.stack_code.specs.declared.op.Op.TheVariants as ops
use Rattle.task_steps.specs.Alike.{Alike}
use Rattle.task_steps.specs.Doing.{came, here_of}
use Rattle.task_steps.specs.Seen.{Seen}
use Rattle.task_steps.proofs.Along.{alike_is}
use Rattle.task_steps.proofs.task.Task.operate.Goals as goal

pub returns-in-Pack-clause-turns : goal.returns-in-Pack-clause-turns
returns-in-Pack-clause-turns c =
    let code = c.args.loaded.now in
    let old = c.args.self.now in
    let new = c.pack.new.self in
    let same : new.data' ≡ old.data' = ap (λ (s : Seen). s.data') c.pack.ensures.rest in
    rw c.in-Pack.is (subst (λ (d : Data). Alike code (act (here_of code old.conf) (ops.Pack c.in-Pack.sort)) old.data' (came (here_of code new.conf) c.pack.result) d) (sym same)
    (alike_is code _ _ old.data' (c.pack.ensures.on code)))

pub returns-in-Wait-clause-turns : goal.returns-in-Wait-clause-turns
returns-in-Wait-clause-turns c = rw c.in-Wait.is (c.wait.ensures.turns c.args.loaded.now)
