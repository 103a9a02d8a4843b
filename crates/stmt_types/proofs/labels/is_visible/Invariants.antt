use Rattle.std.proofs.Common.{◌≡◌, drop}
use Rattle.stmt_types.specs.Labels.{is_visible, labels_around}
use Rattle.stmt_types.proofs.labels.is_visible.Given as goal

abbrev pub invariant-loop-level : goal.invariant-loop-level
invariant-loop-level l = is_visible l.text (labels_around (drop l.level-index l.levels)) ≡ is_visible l.text (labels_around l.levels)
