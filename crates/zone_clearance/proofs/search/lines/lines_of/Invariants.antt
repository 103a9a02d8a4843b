use Rattle.std.proofs.Common.{◌≡◌, length}
use Rattle.zone_clearance.proofs.Numbers.{AreFirstLines}
use Rattle.zone_clearance.proofs.search.lines.lines_of.Given as goal

abbrev pub invariant-loop-number : goal.invariant-loop-number
invariant-loop-number l = record {
  so_far : AreFirstLines l.inside l.p l.q l.bounds l.lines l.number;
  room : length l.lines ≡ 25;
}
