use Rattle.std.proofs.Common.{◌≤◌, arith, nat_abs}
use Rattle.std.proofs.lemmas.Int.{ints, to_z-of_z}
use Rattle.joint_planner.proofs.Rounding.{div_ceil_is}
use Rattle.joint_planner.proofs.planning.plan.Goals as goal

pub returns-clause-count : goal.returns-clause-count
returns-clause-count c =
    let some : 1 ≤ nat_abs c.args.cap = omega (arith, ints) in
    let steps = div_ceil_is c.greatest_change.result (nat_abs c.args.cap) some in
    let rounded = simp (to_z-of_z, c.ranges.cap) at c.div_ceil-steps.ensures in
    rw (← c.greatest_change.ensures.change) (omega arith)
