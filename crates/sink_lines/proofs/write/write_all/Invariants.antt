use Rattle.std.proofs.Common.{◌≤◌, ◌-◌, length, take}
use Rattle.sink_lines.specs.Sends.{Leaves}
use Rattle.sink_lines.specs.Printed.{Gained, GainedCalls}
use Rattle.sink_lines.proofs.write.write_all.Given as goal

abbrev pub invariant-loop-at : goal.invariant-loop-at
invariant-loop-at g l = record {
  within : l.at ≤ length l.piece;
  bytes : Gained (take l.at l.piece) (g.O.Sink.told l.initial.out) (g.O.Sink.told l.out);
  calls : GainedCalls (λ calls. Leaves (length l.piece) calls (length l.piece - l.at)) (g.O.Sink.calls l.initial.out) (g.O.Sink.calls l.out);
  faults : g.O.Sink.faults l.initial.out ≤ g.O.Sink.faults l.out;
}

abbrev pub decreases-loop-at : goal.decreases-loop-at
decreases-loop-at g l = length l.piece - l.at
