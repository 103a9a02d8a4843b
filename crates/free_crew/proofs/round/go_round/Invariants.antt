-- Some rounds are done.
use Rattle.free_crew.specs.Amid.{IsSamePrograms}
use Rattle.free_crew.specs.Crews.{IsSameSize, jobs_of}
use Rattle.free_crew.specs.Runs.{MayRun}
use Rattle.free_crew.proofs.round.go_round.Given as goal

abbrev pub invariant-loop : goal.invariant-loop
invariant-loop g l = record {
  may : MayRun g.M.TaskMachine.program g.M.TaskMachine.fits g.M.TaskMachine.asks g.M.TaskMachine.stands_for g.M.TaskMachine.due l.gate l.crew;
  size : IsSameSize l.initial.crew l.crew;
  programs : IsSamePrograms g.M.TaskMachine.program (jobs_of l.initial.crew) (jobs_of l.crew);
}
