use Rattle.std.proofs.Common.{◌≡◌, ◌++◌, drop}
use Rattle.stmt_types.specs.Labels.{labels_around}
use Rattle.stmt_types.proofs.labels.levels_within.Given as goal

abbrev pub invariant-loop-level : goal.invariant-loop-level
invariant-loop-level l = labels_around l.levels.items ++ labels_around (drop l.level-index l.around) ≡ labels_around l.initial.levels.items ++ labels_around l.around
