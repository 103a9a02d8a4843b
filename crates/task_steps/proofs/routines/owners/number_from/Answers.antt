use Rattle.std.proofs.Common.{◌+◌, ◌≤◌, arith}
use Rattle.task_steps.proofs.Owning.{number_few, number_next, number_same}
use Rattle.task_steps.proofs.routines.owners.number_from.Goals as goal

pub overflow_add-result : goal.overflow_add-result
overflow_add-result c =
    let few : c.args.number + 1 ≤ c.args.pc = number_few c.args.owners.now c.args.pc c.args.number _ c.requires.stands c.requires.before c.if-owners-number.true in
    omega (arith, few, c.ranges.pc.fits)

pub returns-then-owners-number : goal.returns-then-owners-number
returns-then-owners-number c = number_next c.args.owners.now c.args.pc c.args.number _ c.requires.stands c.requires.before c.if-owners-number.true

pub returns-else-owners-number : goal.returns-else-owners-number
returns-else-owners-number c = number_same c.args.owners.now c.args.pc c.args.number _ c.requires.stands c.requires.before c.if-owners-number.false
