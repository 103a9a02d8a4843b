use Rattle.std.proofs.Common.{arith}
use Rattle.trap_dispatch.specs.Tasks.{before_all, after_changes}
use Rattle.trap_dispatch.proofs.Mapped.{mapped_to-step}
use Rattle.trap_dispatch.proofs.traps.fire_each.Goals as goal

pub loop-task-preserved : goal.loop-task-preserved
loop-task-preserved c =
    mapped_to-step (after_changes c.args.changes.now) c.args.tasks.now.items c.loop-task.tasks.items c.loop-task.task c.index_mut.result.now c.fired.new.self before_all (omega arith) c.loop-task.invariant c.index_mut.ensures.value c.fired.ensures
