-- The tasks ask what their trees ask.
use Rattle.std.proofs.Common.{map}
use Rattle.typed_trees.specs.Views.{view_tree}
use Rattle.rapid_meaning.specs.Asking.{tree_asks}
use Rattle.controller.proofs.state_cell.state_after.Given as goal

abbrev pub ghosts-audit_history : goal.ghosts-audit_history
ghosts-audit_history g a = record { asks = tree_asks (map view_tree a.trees.now) }

abbrev pub ghosts-state_reached : goal.ghosts-state_reached
ghosts-state_reached g a = record { asks = tree_asks (map view_tree a.trees.now) }
