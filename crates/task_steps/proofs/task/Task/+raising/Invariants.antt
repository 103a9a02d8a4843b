use Rattle.std.proofs.Common.{◌+◌, ◌*◌, length}
use Rattle.task_steps.proofs.task.Task.+raising.Given as goal

abbrev pub decreases-raise : goal.decreases-raise
decreases-raise l = 2 * length l.self.now.conf.saved + 1

abbrev pub decreases-raise_out : goal.decreases-raise_out
decreases-raise_out l = 2 * length l.self.now.conf.saved
