use Rattle.std.proofs.Common.{arith, sym}
use Rattle.rapid_num.proofs.TenPowers.{great_times, many_tens}
use Rattle.rapid_num.proofs.scale.scale_up.Goals as goal
use Rattle.rapid_num.proofs.scale.scale_up.Goals.{then-number-gt-GREATEST-via-then-number-gt-GREATEST, then-number-gt-GREATEST-via-else-number-gt-GREATEST+then-tens-gt12}

pub returns-then-number-gt-GREATEST : goal.returns-then-number-gt-GREATEST
returns-then-number-gt-GREATEST c =
    elim c.then-number-gt-GREATEST.branch [
      | then-number-gt-GREATEST-via-then-number-gt-GREATEST w ↦ sym (great_times c.args.number c.args.tens (omega arith))
      | then-number-gt-GREATEST-via-else-number-gt-GREATEST+then-tens-gt12 w ↦ sym (many_tens c.args.number c.args.tens (omega arith) (omega arith))
    ]
