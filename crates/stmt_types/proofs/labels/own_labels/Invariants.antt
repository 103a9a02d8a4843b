use Rattle.std.proofs.Common.{◌≡◌, ◌++◌, map, drop}
use Rattle.raw_trees.specs.Plain.{stmts_of}
use Rattle.raw_trees.specs.Views.{view_stmt}
use Rattle.stmt_types.specs.Labels.{own_labels}
use Rattle.stmt_types.proofs.labels.own_labels.Given as goal

abbrev pub invariant-loop-stmt : goal.invariant-loop-stmt
invariant-loop-stmt l = l.labels ++ own_labels (stmts_of (map view_stmt (drop l.stmt-index l.stmt-items))) ≡ own_labels (stmts_of (map view_stmt l.stmt-items))
