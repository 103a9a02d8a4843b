use Rattle.std.proofs.Common.{None, arith}
use Rattle.trap_dispatch.specs.Firing.{after_firing}
use Rattle.trap_dispatch.proofs.Mapped.{mapped_to-next}
use Rattle.trap_dispatch.proofs.firing.end_fired.Goals as goal

pub loop-index-preserved : goal.loop-index-preserved
loop-index-preserved c =
    let next = mapped_to-next (after_firing c.args.changes.now) c.args.numbers.now c.loop-index.index None (omega arith) in
    cc
