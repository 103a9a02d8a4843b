use Rattle.stack_code.specs.Entering.{started}
use Rattle.task_machine.proofs.Looking.{has_place}
use Rattle.task_machine.proofs.Operations.{placed_started}
use Rattle.task_machine.proofs.course.Course.begin.Goals as goal

pub returns-clause-place : goal.returns-clause-place
returns-clause-place c =
    let code = c.args.self.now.code in
    has_place code (started code) c.args.self.now.task.data' c.begin.new.self (placed_started code c.args.self.now.task.data') c.begin.ensures.on
