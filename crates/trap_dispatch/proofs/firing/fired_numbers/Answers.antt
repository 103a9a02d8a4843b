use Rattle.std.proofs.Common.{◌≡◌, length, arith}
use Rattle.std.proofs.lemmas.Grind.{common_steps}
use Rattle.trap_dispatch.proofs.Fired.{fired_more}
use Rattle.trap_dispatch.proofs.firing.fired_numbers.Goals.{then-fires, else-fires}
use Rattle.trap_dispatch.proofs.firing.fired_numbers.Goals as goal

pub loop-index-preserved : goal.loop-index-preserved
loop-index-preserved c =
    let more = fired_more c.args.changes.now c.args.numbers.now c.loop-index.index in
    elim c.if-fires.branch [ then-fires w ↦ grind (arith, common_steps) | else-fires w ↦ grind (arith, common_steps) ]

pub returns : goal.returns
returns c =
    let all : c.loop-index.index ≡ length c.args.numbers.now = omega arith in
    rw (← all) c.loop-index.invariant.0
