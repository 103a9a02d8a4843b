use Rattle.std.proofs.Common.{ap, refl}
use Rattle.rapid_values.proofs.Lists.{both_written}
use Rattle.rapid_values.proofs.nums.joined.Goals as goal

pub returns : goal.returns
returns c = rw (c.copy_from_slice.ensures.after, c.copy_from_slice-2.ensures.after) (ap (λ axis. record { axis = axis }) (both_written c.args.rob.now c.args.ext.now _ c.requires.rob refl))
