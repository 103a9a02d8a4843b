use Rattle.std.proofs.Common.{◌≡◌, ◌++◌}
use Rattle.std.specs.Iterator.Adapters.{zip_first, zip_second}
use Rattle.std.specs.Slice.Iter.{iter_rest}
use Rattle.cell_assembly.specs.Made.{over}
use Rattle.cell_assembly.proofs.pers_cells.over.Given as goal

abbrev pub invariant-loop-given : goal.invariant-loop-given
invariant-loop-given l = l.first.items ++ over (iter_rest (zip_first l.given-iterator)) (iter_rest (zip_second l.given-iterator)) ≡ over l.given l.values
