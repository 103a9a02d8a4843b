use Rattle.std.proofs.Common.{arith}
use Rattle.rapid_num.proofs.literal.read_based.Goals as goal

pub read_digits-requires : goal.read_digits-requires
read_digits-requires c = record { room = omega (arith, c.requires.room) }

pub overflow_mul-number : goal.overflow_mul-number
overflow_mul-number c = omega (arith, c.in_ok-number.ensures.bound, c.requires.room)
