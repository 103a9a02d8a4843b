use Rattle.std.proofs.Common.{arith, sym}
use Rattle.rapid_num.proofs.TenPowers.{rounds_to_nothing, pow_pos_ten, pow_ten_fits}
use Rattle.rapid_num.proofs.scale.scale_down.Goals as goal

pub returns-then-tens-gt30 : goal.returns-then-tens-gt30
returns-then-tens-gt30 c = sym (rounds_to_nothing c.args.number c.args.tens c.requires.thirty_digits c.if-tens-gt30.true)

pub pow-requires : goal.pow-requires
pow-requires c = omega (arith, pow_ten_fits c.args.tens c.if-tens-gt30.false)

pub nearest_quotient-requires : goal.nearest_quotient-requires
nearest_quotient-requires c = record { positive = omega (arith, pow_pos_ten c.args.tens) }
