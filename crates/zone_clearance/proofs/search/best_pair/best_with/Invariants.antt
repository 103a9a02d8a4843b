use Rattle.zone_clearance.proofs.BestPairs.{IsOpenBest}
use Rattle.zone_clearance.proofs.search.best_pair.best_with.Given as goal

abbrev pub invariant-loop-second : goal.invariant-loop-second
invariant-loop-second l = record { best : IsOpenBest l.lines l.best l.first l.second }
