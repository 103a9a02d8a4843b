use Rattle.std.proofs.Common.{take}
use Rattle.sink_lines.specs.Printed.{sunk}
use Rattle.clearance_lines.proofs.PrintingZones.{ZonesPrinted}
use Rattle.clearance_lines.proofs.clearances.print_zones.Given as goal

abbrev pub invariant-loop-zone : goal.invariant-loop-zone
invariant-loop-zone g l =
    ZonesPrinted l.core.cell l.core.history (take l.zone-index l.core.cell.zones) l.printed (sunk g.O.Sink.told g.O.Sink.calls g.O.Sink.faults l.initial.out l.out)
