use Rattle.rapid_values.proofs.Lists.{num_written}
use Rattle.rapid_values.proofs.nums.put_num.Goals as goal

pub returns-in-Num : goal.returns-in-Num
returns-in-Num c = num_written _ _ _ _ c.in-Num.is c.if-index-nums.true
