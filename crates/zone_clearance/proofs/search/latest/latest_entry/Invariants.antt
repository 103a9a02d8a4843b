use Rattle.zone_clearance.proofs.Arriving.{IsLatestSoFar}
use Rattle.zone_clearance.proofs.search.latest.latest_entry.Given as goal

abbrev pub invariant-loop-number : goal.invariant-loop-number
invariant-loop-number l = record { so_far : IsLatestSoFar l.lines l.level l.number l.place.top l.place.bottom }
