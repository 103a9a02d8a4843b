use Rattle.std.proofs.Common.{sym}
use Rattle.task_steps.proofs.Storings.{writes_none, writes_value}
use Rattle.task_steps.proofs.operands.storing.written.Goals as goal

pub returns-in-Some : goal.returns-in-Some
returns-in-Some c = λ h. rw c.copy.ensures (writes_value h c.args.pers c.args.index c.args.part c.args.new.now c.in-Some.value.now (sym c.in-Some.ensures))

pub returns-in-None : goal.returns-in-None
returns-in-None c = λ h. writes_none h c.args.pers c.args.index c.args.part c.args.new.now (sym c.in-None.ensures)
