use Rattle.std.proofs.Common.{◌≡◌, true, take}
use Rattle.std.specs.List.{list_all}
use Rattle.rapid_model.specs.Lengths.{is_full}
use Rattle.cell_core.proofs.starting.are_full.Given as goal

abbrev pub invariant-loop-value : goal.invariant-loop-value
invariant-loop-value l = list_all is_full (take l.value-index l.values) ≡ true
