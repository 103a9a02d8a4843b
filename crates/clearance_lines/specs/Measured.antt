-- The lines of zones, as they are written one after another.
use Rattle.std.specs.Prelude.{◌≡◌, ℕ, List, ◌++◌, length, Option, Some, None, Result, ⊤, slice_get, if◌then◌else◌}
use Rattle.std.specs.List.{IsFirstBest}
use Rattle.outside.specs.declared.failed.Failed.{Failed}
use Rattle.rapid_model.specs.CellData.{CellData}
use Rattle.rapid_model.specs.declared.event.Event.{Event}
use Rattle.rapid_model.specs.declared.zone_row.ZoneRow.{ZoneRow}
use Rattle.cell_meaning.specs.Fates.{fates_after}
use Rattle.history_text.specs.Lines.{fate_lines}
use Rattle.zone_clearance.specs.declared.gap.Gap.{Gap}
use Rattle.clearance_lines.specs.ArmPaths.{Segment, path_of}
use Rattle.clearance_lines.specs.Clearances.{AreClearances, Clearance, IsClearance, clearance_lines, is_nearer, zone_lines}
use Rattle.clearance_lines.specs.declared.nearest.Nearest.{Nearest}
use Rattle.sink_lines.specs.Printed.{Seen, Sunk}
use Rattle.sink_lines.specs.Written.{Writes}

-- these lines come after the ones before; once a write has failed nothing more is written
pub record WritesOn (more : List (List ℕ)) (before after : Result ⊤ Failed) (sink : Sunk) : Type 0 where
  pub on : (start : Seen) (lines : List (List ℕ)) → Writes lines before (record { old = start; new = sink.old }) → Writes (lines ++ more) after (record { old = start; new = sink.new })

-- the lines of a path and a zone
pub record WritesPath (zone : ZoneRow) (path : List Segment) (before after : Result ⊤ Failed) (sink : Sunk) : Type 0 where
  pub clearance : Clearance
  pub is : IsClearance zone.shape path clearance
  pub on : WritesOn (zone_lines zone.name path clearance) before after sink

-- of the path of the zone's arm
abbrev pub WritesZone : CellData → List Event → ZoneRow → Result ⊤ Failed → Result ⊤ Failed → Sunk → Type 0
WritesZone cell history zone before after sink = WritesPath zone (path_of cell history zone.task) before after sink

-- those of all zones
pub record WritesZones (cell : CellData) (history : List Event) (result : Result ⊤ Failed) (sink : Sunk) : Type 0 where
  pub clearances : List Clearance
  pub are : AreClearances cell history cell.zones clearances
  pub written : Writes (clearance_lines cell history cell.zones clearances) result sink

-- and then those of the tasks
pub record WritesMeasured (cell : CellData) (history : List Event) (result : Result ⊤ Failed) (sink : Sunk) : Type 0 where
  pub clearances : List Clearance
  pub are : AreClearances cell history cell.zones clearances
  pub written : Writes (clearance_lines cell history cell.zones clearances ++ fate_lines cell.tasks (fates_after cell history (length cell.tasks))) result sink

-- it is the first segment of these that has the least gap, and its gap
pub record IsNearest (segments : List Segment) (gaps : List Gap) (nearest : Nearest) : Type 0 where
  pub place : ℕ
  pub best : IsFirstBest is_nearer gaps (length gaps) place
  pub gap : slice_get gaps place ≡ Some nearest.gap
  pub segment : Segment
  pub there : slice_get segments place ≡ Some segment
  pub event : segment.event ≡ nearest.event

-- the nearer one of two, the first one if they are as near
abbrev pub nearer_of : Option Nearest → Nearest → Nearest
nearer_of None new = new
nearer_of (Some old) new = if is_nearer new.gap old.gap then new else old
