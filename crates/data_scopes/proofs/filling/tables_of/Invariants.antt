use Rattle.std.proofs.Common.{◌≡◌, ◌++◌, [], map, drop}
use Rattle.raw_trees.specs.Views.{view_module}
use Rattle.data_scopes.specs.Numbers.{no_counts, task_scope, own_scopes, inner_scopes, all_loops}
use Rattle.data_scopes.specs.Scopes.{loop_rows}
use Rattle.data_scopes.proofs.filling.tables_of.Given as goal

abbrev pub invariant-loop-unit : goal.invariant-loop-unit
invariant-loop-unit l =
    (task_scope l.counts (map view_module (drop l.unit-index l.modules)) l.task ≡ task_scope no_counts (map view_module l.modules) [])
    × (l.own.items ++ own_scopes l.counts (map view_module (drop l.unit-index l.modules)) ≡ own_scopes no_counts (map view_module l.modules))
    × (l.inner.items ++ inner_scopes l.counts (map view_module (drop l.unit-index l.modules)) ≡ inner_scopes no_counts (map view_module l.modules))
    × (loop_rows l.loops.items ++ all_loops (map view_module (drop l.unit-index l.modules)) ≡ all_loops (map view_module l.modules))
