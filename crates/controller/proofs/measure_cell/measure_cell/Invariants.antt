-- The tasks ask what their trees ask.
use Rattle.std.proofs.Common.{map}
use Rattle.typed_trees.specs.Views.{view_tree}
use Rattle.rapid_meaning.specs.Asking.{tree_asks}
use Rattle.controller.proofs.measure_cell.measure_cell.Given as goal

abbrev pub ghosts-run_tasks : goal.ghosts-run_tasks
ghosts-run_tasks g a = record { asks = tree_asks (map view_tree a.trees.now) }
