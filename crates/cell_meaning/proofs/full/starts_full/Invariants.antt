use Rattle.std.proofs.Common.{take}
use Rattle.std.specs.List.{list_all}
use Rattle.std.specs.Prelude.{IsTrue}
use Rattle.rapid_model.specs.Lengths.{is_full}
use Rattle.cell_meaning.proofs.full.starts_full.Given as goal

-- the first values of each persistent so far
abbrev pub invariant-loop-row : goal.invariant-loop-row
invariant-loop-row l = IsTrue (list_all (λ row. list_all is_full row.first) (take l.row-index l.rows))
