use Rattle.std.proofs.Common.{sym, ap, ◌∙◌}
use Rattle.stack_code.specs.CodeData.{CodeData}
use Rattle.stack_code.specs.Entering.{initial}
use Rattle.task_machine.proofs.Settling.{new_machine}
use Rattle.task_machine.proofs.machine.Machine.new.Goals as goal

pub invariant_of-result : goal.invariant_of-result
invariant_of-result c = new_machine c.in-Ok.course.code c.in-Ok.course.task c.in-Ok.ensures.fresh (c.in-Ok.ensures.data ∙ ap (λ (code : CodeData). initial code) (sym c.in-Ok.ensures.code))
