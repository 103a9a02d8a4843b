use Rattle.std.proofs.Common.{take}
use Rattle.std.specs.List.{list_all}
use Rattle.std.specs.Prelude.{IsTrue}
use Rattle.rapid_model.specs.Lengths.{is_full}
use Rattle.cell_meaning.proofs.full.are_full.Given as goal

-- each value so far
abbrev pub invariant-loop-value : goal.invariant-loop-value
invariant-loop-value l = IsTrue (list_all is_full (take l.value-index l.values))
