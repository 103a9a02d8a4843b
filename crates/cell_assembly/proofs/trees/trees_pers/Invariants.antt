use Rattle.std.proofs.Common.{◌≡◌, [], map, drop}
use Rattle.typed_trees.specs.Views.{view_tree}
use Rattle.cell_assembly.specs.Cells.{trees_pers}
use Rattle.cell_assembly.specs.Parts.{view_pers_tables}
use Rattle.cell_assembly.proofs.trees.trees_pers.Given as goal

abbrev pub invariant-loop-tree : goal.invariant-loop-tree
invariant-loop-tree l =
    trees_pers (view_pers_tables l.tables) l.task (map view_tree (drop l.tree-index l.trees)) ≡ trees_pers (record { pers = []; lists = [] }) 0 (map view_tree l.trees)
