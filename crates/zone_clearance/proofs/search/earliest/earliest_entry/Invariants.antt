use Rattle.zone_clearance.specs.Arrivals.{IsArrival}
use Rattle.zone_clearance.proofs.search.earliest.earliest_entry.Given as goal

abbrev pub invariant-loop-number : goal.invariant-loop-number
invariant-loop-number l = record { so_far : IsArrival l.lines l.level l.number l.arrival }
