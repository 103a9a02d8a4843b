use Rattle.std.proofs.Common.{sym, ◌∙◌, List, ◌∷◌, reverse, take, drop}
use Rattle.typed_trees.specs.declared.datum.Datum.{Datum}
use Rattle.task_steps.specs.Points.{Waiting, saved_in}
use Rattle.task_steps.specs.Savings.{saved_row}
use Rattle.task_steps.proofs.Calls.{enter_floods, enter_stands}
use Rattle.task_steps.proofs.task.Task.enter.Goals as goal

pub returns-then-has_room-clause-turns : goal.returns-then-has_room-clause-turns
returns-then-has_room-clause-turns c =
    let s = c.args.self.now in
    let args : List Datum = reverse (take c.args.args s.conf.stack) in
    let saved : List Waiting = saved_row c.args.below (drop c.args.args s.conf.stack) ∷ s.conf.saved in
    enter_stands c.args.loaded.now c.args.routine c.args.row args saved s.data' c.stack_on.new.self.data' c.stack_on.new.self.conf (sym c.has_room.ensures ∙ c.if-has_room.true) c.stack_on.ensures.conf c.stack_on.ensures.data

pub returns-else-has_room-clause-turns : goal.returns-else-has_room-clause-turns
returns-else-has_room-clause-turns c =
    let s = c.args.self.now in
    let args : List Datum = reverse (take c.args.args s.conf.stack) in
    let saved : List Waiting = saved_row c.args.below (drop c.args.args s.conf.stack) ∷ s.conf.saved in
    enter_floods c.args.loaded.now c.args.routine c.args.row args (saved_in c.args.loaded.now saved) s.data' (sym c.has_room.ensures ∙ c.if-has_room.false)
