use Rattle.std.proofs.Common.{ℕ, List, ◌++◌, replicate}
use Rattle.code_expr.specs.Starts.{AreStarts}
use Rattle.code_expr.proofs.starts.add_rows.Given as goal

abbrev pub invariant-loop-row : goal.invariant-loop-row
invariant-loop-row l = (widths : List ℕ) → AreStarts l.initial.starts.items widths → AreStarts l.starts.items (widths ++ replicate l._row l.width)
