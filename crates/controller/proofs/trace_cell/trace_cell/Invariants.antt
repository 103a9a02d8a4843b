-- The tasks ask what their trees ask.
use Rattle.std.proofs.Common.{map}
use Rattle.typed_trees.specs.Views.{view_tree}
use Rattle.rapid_meaning.specs.Asking.{tree_asks}
use Rattle.controller.proofs.trace_cell.trace_cell.Given as goal

abbrev pub ghosts-trace_tasks : goal.ghosts-trace_tasks
ghosts-trace_tasks g a = record { asks = tree_asks (map view_tree a.trees.now) }
