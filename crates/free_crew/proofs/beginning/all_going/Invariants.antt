-- This many tasks have a standing.
use Rattle.std.proofs.Common.{◌≡◌, length, replicate}
use Rattle.free_crew.specs.declared.standing.Standing.TheVariants as standings
use Rattle.free_crew.proofs.beginning.all_going.Given as goal

abbrev pub invariant-loop-task : goal.invariant-loop-task
invariant-loop-task l = record {
  len : length l.standings.items ≡ l._task;
  going : l.standings.items ≡ replicate l._task standings.Going;
}
