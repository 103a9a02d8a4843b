use Rattle.std.proofs.Common.{arith}
use Rattle.cell_core.proofs.shared.Core.task_count.Goals as goal

pub returns-clause-few : goal.returns-clause-few
returns-clause-few c = omega (arith, c.self.invariant.4, c.self.invariant.0.limits.few_tasks)
