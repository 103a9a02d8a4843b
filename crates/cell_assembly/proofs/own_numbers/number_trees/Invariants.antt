use Rattle.std.proofs.Common.{◌≡◌, ◌+◌, ◌++◌, length, map, take, drop}
use Rattle.std.specs.Vec.Iter.{into_iter_items}
use Rattle.typed_trees.specs.Views.{view_tree}
use Rattle.cell_assembly.specs.Made.{numbered}
use Rattle.cell_assembly.specs.Parts.{view_lists}
use Rattle.cell_assembly.proofs.own_numbers.number_trees.Given as goal

abbrev pub invariant-loop-tree : goal.invariant-loop-tree
invariant-loop-tree l = record {
  same :
      map view_tree (take l.tree-index l.trees)
      ++ numbered (map view_tree (drop l.tree-index l.trees)) (map (λ v. v.items) (into_iter_items l.pers_of)) (map (λ v. v.items) (into_iter_items l.meeting_of))
      ≡ numbered (map view_tree l.fn.trees) (view_lists l.fn.pers_of) (view_lists l.fn.meeting_of);
  pers_left : length (into_iter_items l.pers_of) + l.tree-index ≡ length l.trees;
  meetings_left : length (into_iter_items l.meeting_of) + l.tree-index ≡ length l.trees;
}
