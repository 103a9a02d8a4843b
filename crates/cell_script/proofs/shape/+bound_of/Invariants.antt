use Rattle.std.proofs.Common.{length}
use Rattle.cell_script.proofs.shape.+bound_of.Given as goal

abbrev pub decreases-bound_of : goal.decreases-bound_of
decreases-bound_of l = length l.axes.now
