use Rattle.std.proofs.Common.{◌≡◌, true, take}
use Rattle.std.specs.List.{list_all}
use Rattle.rapid_model.specs.Lengths.{is_full}
use Rattle.cell_core.proofs.starting.rows_are_full.Given as goal

abbrev pub invariant-loop-row : goal.invariant-loop-row
invariant-loop-row l = list_all (λ row. list_all is_full row.first) (take l.row-index l.rows) ≡ true
