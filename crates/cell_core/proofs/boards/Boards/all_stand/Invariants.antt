use Rattle.std.proofs.Common.{◌≡◌}
use Rattle.cell_core.specs.Reading.{all_stand}
use Rattle.cell_core.proofs.boards.Boards.all_stand.Given as goal

abbrev pub invariant-loop-task : goal.invariant-loop-task
invariant-loop-task l = l.all ≡ all_stand l.task l.self
