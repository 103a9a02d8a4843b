use Rattle.std.proofs.Common.{◌≡◌}
use Rattle.trap_dispatch.specs.Firing.{after_firing}
use Rattle.trap_dispatch.proofs.Mapped.{mapped_to}
use Rattle.trap_dispatch.proofs.firing.end_fired.Given as goal

abbrev pub invariant-loop-index : goal.invariant-loop-index
invariant-loop-index l = l.numbers ≡ mapped_to (after_firing l.changes) l.fn.numbers l.index
