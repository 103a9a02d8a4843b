use Rattle.std.proofs.Common.{[]}
use Rattle.task_machine.specs.Standing.{StandsFor, machine_of}
use Rattle.task_machine.proofs.Settling.{settled_machine, stands_settled}
use Rattle.task_machine.proofs.machine.Machine.begin.Goals as goal

pub invariant_of-self : goal.invariant_of-self
invariant_of-self c =
    let code = c.self.inside.course.code in
    let on = rw c.begin.ensures.code at c.settle.ensures.reached in
    let stands : StandsFor (machine_of code c.settle.new.self.task) [] = stands_settled code c.begin.new.self.task c.settle.new.self.task [] c.begin.ensures.stands (on []) in
    rw (c.settle.ensures.code, c.begin.ensures.code) (settled_machine code c.settle.new.self.task [] c.settle.ensures.due stands c.settle.ensures.place)

pub returns-clause-stands : goal.returns-clause-stands
returns-clause-stands c =
    let code = c.self.inside.course.code in
    let on = rw c.begin.ensures.code at c.settle.ensures.reached in
    let stands : StandsFor (machine_of code c.settle.new.self.task) [] = stands_settled code c.begin.new.self.task c.settle.new.self.task [] c.begin.ensures.stands (on []) in
    rw (c.settle.ensures.code, c.begin.ensures.code) stands
