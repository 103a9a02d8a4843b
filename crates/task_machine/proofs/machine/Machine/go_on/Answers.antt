use Rattle.std.proofs.Common.{[], ◌∷◌, ◌++◌}
use Rattle.task_machine.specs.Standing.{StandsFor, machine_of}
use Rattle.task_machine.proofs.Settling.{settled_machine, stands_settled}
use Rattle.task_machine.proofs.machine.Machine.go_on.Goals as goal

pub reply-requires-clause-fits : goal.reply-requires-clause-fits
reply-requires-clause-fits c = rw (← c.self.view_is) at c.requires.fits

pub invariant_of-self : goal.invariant_of-self
invariant_of-self c =
    let code = c.self.inside.course.code in
    let before = c.self.invariant.stands in
    let answers = before.0 ++ c.args.answer ∷ [] in
    let on = rw c.reply.ensures.code at c.settle.ensures.reached in
    let stands : StandsFor (machine_of code c.settle.new.self.task) answers =
    stands_settled code c.reply.new.self.task c.settle.new.self.task answers (c.reply.ensures.stands before.0 before.1) (on answers) in
    rw (c.settle.ensures.code, c.reply.ensures.code) (settled_machine code c.settle.new.self.task answers c.settle.ensures.due stands c.settle.ensures.place)

pub returns-clause-stands : goal.returns-clause-stands
returns-clause-stands c = λ before stood.
    let code = c.self.inside.course.code in
    let answers = before ++ c.args.answer ∷ [] in
    let there : StandsFor (machine_of code c.self.inside.course.task) before = rw (← c.self.view_is) at stood in
    let on = rw c.reply.ensures.code at c.settle.ensures.reached in
    let stands : StandsFor (machine_of code c.settle.new.self.task) answers =
    stands_settled code c.reply.new.self.task c.settle.new.self.task answers (c.reply.ensures.stands before there) (on answers) in
    rw (c.settle.ensures.code, c.reply.ensures.code) stands
