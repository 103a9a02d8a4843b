use Rattle.std.proofs.Common.{ℕ, List, ◌++◌, map, take}
use Rattle.rapid_model.specs.Sorts.{width}
use Rattle.code_expr.specs.Starts.{AreStarts}
use Rattle.code_expr.proofs.starts.add_locals.Given as goal

abbrev pub invariant-loop-local : goal.invariant-loop-local
invariant-loop-local l = (widths : List ℕ) → AreStarts l.initial.starts.items widths → AreStarts l.starts.items (widths ++ map (λ local. width local.len) (take l.local-index l.local-items))
