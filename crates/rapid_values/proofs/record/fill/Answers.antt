use Rattle.rapid_values.proofs.Lists.{other_count}
use Rattle.rapid_values.proofs.record.fill.Goals as goal

pub returns-then-parts-nums : goal.returns-then-parts-nums
returns-then-parts-nums c = λ make. other_count _ make _ c.if-parts-nums.true
