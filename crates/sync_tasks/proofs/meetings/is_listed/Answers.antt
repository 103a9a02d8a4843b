use Rattle.std.proofs.Common.{◌≡◌, ◌/◌, ◌%◌, ◌^◌, refl}
use Rattle.std.proofs.lemmas.Bool.{le-ltb}
use Rattle.std.proofs.lemmas.Nat.Bits.{bit_at_above}
use Rattle.sync_tasks.proofs.meetings.is_listed.Goals as goal

pub returns-else-task-lt16 : goal.returns-else-task-lt16
returns-else-task-lt16 c =
    let none : c.args.tasks / 2 ^ c.args.task % 2 ≡ 0 = bit_at_above c.args.tasks 16 c.args.task c.ranges.tasks.fits c.if-task-lt16.false in
    rw (none, le-ltb c.args.task 16 c.if-task-lt16.false) refl
