use Rattle.zone_clearance.proofs.BestPairs.{IsOpenBest}
use Rattle.zone_clearance.proofs.search.best_pair.best_pair.Given as goal

abbrev pub invariant-loop-first : goal.invariant-loop-first
invariant-loop-first l = record { best : IsOpenBest l.lines l.best l.first l.first }
