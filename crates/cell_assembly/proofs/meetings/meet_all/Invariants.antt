use Rattle.std.proofs.Common.{◌≡◌, drop}
use Rattle.cell_assembly.specs.Cells.{meet_all}
use Rattle.cell_assembly.specs.Parts.{view_meetings}
use Rattle.cell_assembly.proofs.meetings.meet_all.Given as goal

abbrev pub invariant-loop-name : goal.invariant-loop-name
invariant-loop-name l = meet_all (view_meetings l.more) (drop l.name-index l.names) ≡ meet_all (view_meetings l.initial.more) l.names
