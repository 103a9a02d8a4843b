use Rattle.std.proofs.Common.{length}
use Rattle.cell_script.proofs.bounds.+are_bounds.Given as goal

abbrev pub decreases-are_bounds : goal.decreases-are_bounds
decreases-are_bounds l = length l.axes.now
