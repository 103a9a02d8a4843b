use Rattle.std.proofs.Common.{arith, length}
use Rattle.rapid_num.proofs.TenPowers.{pow_ten_fits, both_fit}
use Rattle.rapid_num.proofs.decimal.read_mantissa.Goals as goal

pub read_onto-requires : goal.read_onto-requires
read_onto-requires c = record { room = omega (arith, pow_ten_fits (length c.cut_at_point.result.0.now) (omega arith)) }

pub read_onto-requires-2 : goal.read_onto-requires-2
read_onto-requires-2 c =
    record { room = omega (arith, both_fit c.in_ok-front.front (length c.cut_at_point.result.0.now) (length c.cut_at_point.result.1.now) c.in_ok-front.ensures.bound (omega arith)) }

pub returns-clause-thirty_digits : goal.returns-clause-thirty_digits
returns-clause-thirty_digits c =
    omega (arith, c.in_ok-number.ensures.bound, both_fit c.in_ok-front.front (length c.cut_at_point.result.0.now) (length c.cut_at_point.result.1.now) c.in_ok-front.ensures.bound (omega arith))
