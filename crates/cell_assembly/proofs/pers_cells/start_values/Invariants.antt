use Rattle.std.proofs.Common.{◌≡◌, replicate}
use Rattle.cell_assembly.specs.Made.{start_of}
use Rattle.cell_assembly.proofs.pers_cells.start_values.Given as goal

abbrev pub invariant-loop-element : goal.invariant-loop-element
invariant-loop-element l = l.values.items ≡ replicate l._element (start_of l.sort)
