use Rattle.std.proofs.Common.{length}
use Rattle.cell_script.proofs.bounds.+each_below.Given as goal

abbrev pub decreases-each_below : goal.decreases-each_below
decreases-each_below l = length l.lows.now
