use Rattle.std.proofs.Common.{◌-◌, ◌≤◌, length, get_or, take, drop, arith}
use Rattle.std.proofs.lemmas.Grind.{common_steps}
use Rattle.rapid_num.proofs.TenPowers.{base_at_most, based_fits, pow_ten_fits}
use Rattle.rapid_num.proofs.ReadBack.{reads_digits}
use Rattle.rapid_num.proofs.literal.read_thousandths.Goals as goal

pub read_based-requires : goal.read_based-requires
read_based-requires c = record { room = omega (arith, pow_ten_fits (length c.args.text.now) c.requires.short) }

pub returns-in-Some : goal.returns-in-Some
returns-in-Some c = reads_digits c.args.text.now c.in-Some.whole c.in-Some.ensures

pub read_based-requires-in-Some-base_of : goal.read_based-requires-in-Some-base_of
read_based-requires-in-Some-base_of c =
    let most : c.in-Some-base_of.base ≤ 16 = base_at_most (get_or c.args.text.now 1 0) c.in-Some-base_of.base c.in-Some-base_of.ensures in
    let short : length (take (length c.args.text.now - 2) (drop 2 c.args.text.now)) ≤ 28 = grind (arith, common_steps) in
    record { room = omega (arith, based_fits c.in-Some-base_of.base _ most short) }
