use Rattle.std.proofs.Common.{◌≤◌, nat_abs}
use Rattle.zone_clearance.proofs.LeastEnds.{IsLeastSoFar}
use Rattle.zone_clearance.proofs.search.least_end.least_end.Given as goal

abbrev pub invariant-loop-number : goal.invariant-loop-number
invariant-loop-number l = record {
  so_far : IsLeastSoFar l.lines l.number l.least;
  small : nat_abs l.least ≤ 200_000_000;
}
