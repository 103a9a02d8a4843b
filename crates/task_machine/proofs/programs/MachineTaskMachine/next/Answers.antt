use Rattle.task_machine.specs.Programs.{asks_with}
use Rattle.task_machine.proofs.Fitting.{fits_due}
use Rattle.task_machine.proofs.programs.MachineTaskMachine.next.Goals as goal

pub go_on-requires-clause-fits : goal.go_on-requires-clause-fits
go_on-requires-clause-fits c = λ request due.
    let m = c.args.self.now in
    let before = c.requires.fitting in
    fits_due m.code before.0 c.args.answer request m.data' (asks_with m before.0 request before.1 due) before.2
