use Rattle.std.proofs.Common.{◌≡◌, map, drop}
use Rattle.typed_trees.specs.Views.{view_pers}
use Rattle.cell_assembly.specs.Cells.{all_pers}
use Rattle.cell_assembly.specs.Parts.{view_numbered}
use Rattle.cell_assembly.proofs.one_pers.all_pers.Given as goal

abbrev pub invariant-loop-row : goal.invariant-loop-row
invariant-loop-row l =
    all_pers (view_numbered l.more) l.task (map view_pers (drop l.row-index l.rows)) ≡ all_pers (view_numbered l.initial.more) l.task (map view_pers l.rows)
