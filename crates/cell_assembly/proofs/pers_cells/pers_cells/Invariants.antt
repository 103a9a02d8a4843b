use Rattle.std.proofs.Common.{◌≡◌, map, take}
use Rattle.cell_assembly.specs.Made.{pers_cell}
use Rattle.cell_assembly.specs.Views.{view_info}
use Rattle.cell_assembly.proofs.pers_cells.pers_cells.Given as goal

abbrev pub invariant-loop-info : goal.invariant-loop-info
invariant-loop-info l = l.cells.items ≡ map pers_cell (map view_info (take l.info-index l.pers))
