use Rattle.std.proofs.Common.{◌≡◌}
use Rattle.trap_dispatch.specs.Tasks.{after_changes}
use Rattle.trap_dispatch.proofs.Mapped.{mapped_to}
use Rattle.trap_dispatch.proofs.traps.fire_each.Given as goal

abbrev pub invariant-loop-task : goal.invariant-loop-task
invariant-loop-task l = l.tasks.items ≡ mapped_to (after_changes l.changes) l.fn.tasks.items l.task
