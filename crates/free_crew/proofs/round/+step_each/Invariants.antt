use Rattle.std.proofs.Common.{length}
use Rattle.free_crew.proofs.round.+step_each.Given as goal

abbrev pub decreases-step_each : goal.decreases-step_each
decreases-step_each g l = length l.crew.machines.items
