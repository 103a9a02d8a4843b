use Rattle.std.proofs.Common.{false, None}
use Rattle.trap_dispatch.proofs.Queued.{sound-with}
use Rattle.trap_dispatch.proofs.task_traps.TaskTraps.connect.Goals as goal

pub invariant_of-self : goal.invariant_of-self
invariant_of-self c =
    sound-with c.self.inside.numbers c.self.inside.queue c.in-Some.index (record { trap = c.args.trap; order = None; asleep = false }) c.in-Some.ensures.there c.self.invariant
