use Rattle.std.proofs.Common.{◌≡◌, [], map, drop}
use Rattle.typed_trees.specs.Views.{view_tree}
use Rattle.cell_assembly.specs.Cells.{trees_meetings}
use Rattle.cell_assembly.specs.Parts.{view_meeting_tables}
use Rattle.cell_assembly.proofs.meetings.trees_meetings.Given as goal

abbrev pub invariant-loop-tree : goal.invariant-loop-tree
invariant-loop-tree l =
    trees_meetings (view_meeting_tables l.tables) (map view_tree (drop l.tree-index l.trees)) ≡ trees_meetings (record { names = []; lists = [] }) (map view_tree l.trees)
