use Rattle.task_machine.proofs.Settling.{runs_new}
use Rattle.task_machine.proofs.course.Course.new.Goals as goal

pub invariant_of-result : goal.invariant_of-result
invariant_of-result c =
    let live = rw c.code.ensures at c.keep_live.ensures in
    record { room = c.in-Ok.ensures.room; runs = runs_new c.args.code c.in-Ok.task live c.in-Ok.ensures.phase c.in-Ok.ensures.data }
