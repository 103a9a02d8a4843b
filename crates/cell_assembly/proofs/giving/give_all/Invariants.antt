use Rattle.std.proofs.Common.{◌≡◌, drop}
use Rattle.cell_assembly.specs.Cells.{give_all}
use Rattle.cell_assembly.proofs.giving.give_all.Given as goal

abbrev pub invariant-loop-number : goal.invariant-loop-number
invariant-loop-number l = give_all l.given l.number (drop l.number l.rows) ≡ give_all l.initial.given 0 l.rows
