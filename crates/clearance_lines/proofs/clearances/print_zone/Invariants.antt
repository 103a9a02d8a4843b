use Rattle.std.proofs.Common.{take}
use Rattle.sink_lines.specs.Printed.{sunk}
use Rattle.clearance_lines.proofs.ArmPositions.{zone_axes}
use Rattle.clearance_lines.proofs.PathGaps.{Walked}
use Rattle.clearance_lines.proofs.clearances.print_zone.Given as goal

abbrev pub invariant-loop-k : goal.invariant-loop-k
invariant-loop-k g l =
    Walked l.zone l.start (zone_axes l.core.cell l.zone) (take l.k l.core.history) l.at l.nearest l.fn.before l.printed (sunk g.O.Sink.told g.O.Sink.calls g.O.Sink.faults l.initial.out l.out)
