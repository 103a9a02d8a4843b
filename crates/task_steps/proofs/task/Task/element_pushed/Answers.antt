use Rattle.std.proofs.Common.{Some, None}
use Rattle.typed_trees.specs.declared.datum.Datum.TheVariants.{Place}
use Rattle.rapid_meaning.specs.Places.{element_root, place_of_element, there_in}
use Rattle.task_steps.specs.Doing.{here_of}
use Rattle.task_steps.proofs.Readings.{push_read}
use Rattle.task_steps.proofs.task.Task.element_pushed.Goals as goal

pub returns-in-Some : goal.returns-in-Some
returns-in-Some c = λ code.
    let s = c.args.self.now in
    let p = c.args.place in
    rw c.place_pushed.ensures (push_read code (here_of code s.conf) s.data' Place (λ d. there_in d (place_of_element p c.args.number) (element_root p.root c.args.number)) (Some c.in-Some.place) c.in-Some.ensures)

pub returns-in-None : goal.returns-in-None
returns-in-None c = λ code.
    let s = c.args.self.now in
    let p = c.args.place in
    push_read code (here_of code s.conf) s.data' Place (λ d. there_in d (place_of_element p c.args.number) (element_root p.root c.args.number)) None c.in-None.ensures
