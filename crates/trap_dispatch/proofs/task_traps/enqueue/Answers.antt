use Rattle.trap_dispatch.proofs.Room.{buffer_of_room}
use Rattle.trap_dispatch.proofs.task_traps.enqueue.Goals as goal

pub returns-clause-queued : goal.returns-clause-queued
returns-clause-queued c =
    buffer_of_room c.args.queue.now c.fill_from_slice.new.self c.args.fired.now c.fill_from_slice.result c.requires.room c.fill_from_slice.ensures.count c.fill_from_slice.ensures.items
