use Rattle.std.proofs.Common.{◌≡◌}
use Rattle.cell_core.specs.Reading.{all_have_fates}
use Rattle.cell_core.proofs.boards.Boards.all_have_fates.Given as goal

abbrev pub invariant-loop-task : goal.invariant-loop-task
invariant-loop-task l = l.all ≡ all_have_fates l.task l.self.actors
