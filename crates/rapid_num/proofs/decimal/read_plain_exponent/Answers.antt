use Rattle.std.proofs.Common.{◌<◌, ◌^◌, arith, length, ◌∙◌, ap, Some, pos}
use Rattle.std.proofs.lemmas.Int.{ints, to_z_pos}
use Rattle.std.specs.Option.{option_map}
use Rattle.std.specs.Int.{w128}
use Rattle.rapid_num.proofs.TenPowers.{pow_ten_fits}
use Rattle.rapid_num.proofs.decimal.read_plain_exponent.Goals as goal

pub read_digits-requires : goal.read_digits-requires
read_digits-requires c = record { room = omega (arith, pow_ten_fits (length c.args.digits.now) c.requires.short) }

pub overflow_cast-result : goal.overflow_cast-result
overflow_cast-result c =
    let small : c.in_ok-number.number < 10 ^ 30 = omega (arith, c.in_ok-number.ensures.bound, pow_ten_fits (length c.args.digits.now) c.requires.short) in
    omega (arith, ints)

pub returns-clause-value : goal.returns-clause-value
returns-clause-value c =
    let small : c.in_ok-number.number < 10 ^ 30 = omega (arith, c.in_ok-number.ensures.bound, pow_ten_fits (length c.args.digits.now) c.requires.short) in
    ap Some (to_z_pos w128 c.in_ok-number.number (omega arith)) ∙ ap (option_map pos) c.in_ok-number.ensures.number

pub returns-clause-thirty_digits : goal.returns-clause-thirty_digits
returns-clause-thirty_digits c =
    let small : c.in_ok-number.number < 10 ^ 30 = omega (arith, c.in_ok-number.ensures.bound, pow_ten_fits (length c.args.digits.now) c.requires.short) in
    omega (arith, ints)
