use Rattle.std.proofs.Common.{◌≡◌}
use Rattle.circular_buffer.specs.Buffer.{buffer}
use Rattle.trap_dispatch.proofs.Turned.{after_turns}
use Rattle.trap_dispatch.proofs.task_traps.take_out.Given as goal

abbrev pub invariant-loop-turn : goal.invariant-loop-turn
invariant-loop-turn l = l.queue ≡ buffer (after_turns l.number l.fn.queue.items l._turn) l.fn.queue.capacity
