use Rattle.std.proofs.Common.{◌≡◌, is_some, true, refl}
use Rattle.trap_dispatch.specs.Firing.{connected_at}
use Rattle.trap_dispatch.proofs.Queued.{sound-without}
use Rattle.trap_dispatch.proofs.task_traps.TaskTraps.delete.Goals as goal

pub invariant_of-self : goal.invariant_of-self
invariant_of-self c =
    let there : is_some (connected_at c.self.inside.numbers c.args.number) ≡ true = rw (← c.connected_at.ensures, c.is_none.ensures, c.if-is_none.false) refl in
    sound-without c.self.inside.numbers c.self.inside.queue c.take_out.new.queue c.args.number there c.take_out.ensures c.self.invariant
