use Rattle.std.proofs.Common.{◌≡◌, replicate}
use Rattle.trap_dispatch.specs.Tasks.{before_all}
use Rattle.trap_dispatch.proofs.traps.starts.Given as goal

abbrev pub invariant-loop-task : goal.invariant-loop-task
invariant-loop-task l = l.starts.items ≡ replicate l._task before_all
