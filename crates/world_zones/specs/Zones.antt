-- Zones of arms by number, and zones of the cell (RAPID Instructions: WZLimSup, WZDisable, WZEnable, WZFree).
use Rattle.std.specs.Prelude.{ℕ, ◌+◌, ◌-◌, Bool, true, false, ◌&&◌, ◌==◌, if◌then◌else◌, List, length, map, replicate, slice_index_or, slice_set, Option, None, Some, is_some, is_none, Result, Ok, Err}
use Rattle.std.specs.List.{position_from}
use Rattle.rapid_limits.specs.declared.TheConstants.{MOST_ZONES}
use Rattle.rapid_num.specs.declared.shape.Shape.{Shape}
use Rattle.rapid_model.specs.Truths.{same_truth}
use Rattle.rapid_model.specs.CellData.{CellData}
use Rattle.rapid_model.specs.declared.zone_row.ZoneRow.{ZoneRow}
use Rattle.world_zones.specs.declared.cell_zone.CellZone.{CellZone}
use Rattle.world_zones.specs.declared.own_zone.OwnZone.{OwnZone}
use Rattle.world_zones.specs.declared.zone_fault.ZoneFault.{ZoneFault}
use Rattle.world_zones.specs.declared.zone_fault.ZoneFault.TheVariants as zone_faults

-- the zones of each task's arm, index n - 1 for number n, and those of the cell in script order
pub record ZonesData : Type 0 where
  pub arms : List (List (Option OwnZone))
  pub cell : List CellZone

-- a zone of the cell, from its row
abbrev pub zone_of : ZoneRow → CellZone
zone_of row = record { task = row.task; shape = row.shape; signal = row.signal; value = row.value }

-- no arm has a zone
abbrev pub no_zones : List (Option OwnZone)
no_zones = replicate MOST_ZONES None

abbrev pub before_all : CellData → ZonesData
before_all cell = record { arms = replicate (length cell.tasks) no_zones; cell = map zone_of cell.zones }

-- the zone with this number; numbers count from 1, and no other number has one
abbrev pub zone_at : List (Option OwnZone) → ℕ → Option OwnZone
zone_at zones number = if number == 0 then None else slice_index_or zones (number - 1) None

-- the same with another zone for a number, or none
abbrev pub with_zone : List (Option OwnZone) → ℕ → Option OwnZone → List (Option OwnZone)
with_zone zones number zone = slice_set zones (number - 1) zone

-- the least free number, counted from 1
abbrev pub least_free : Option ℕ → Result ℕ ZoneFault
least_free None = Err zone_faults.ZoneFull
least_free (Some index) = Ok (index + 1)

-- the answer to a new zone: `ZoneUsed` if the old number is a zone, `ZoneFull` if no number is free, otherwise the
-- least free one
abbrev pub set_answer : List (Option OwnZone) → ℕ → Result ℕ ZoneFault
set_answer zones old = if is_some (zone_at zones old) then Err zone_faults.ZoneUsed else least_free (position_from is_none 0 zones)

-- newly given: on, and stops the arm
abbrev pub given : Bool → Shape → Option OwnZone
given temporary shape = Some (record { temporary = temporary; on = true; shape = shape; output = None })

abbrev pub is_temporary : Option OwnZone → Bool
is_temporary None = false
is_temporary (Some zone) = zone.temporary

-- a zone, if there is one, switched on or off
abbrev pub switched : Bool → Option OwnZone → Option OwnZone
switched on None = None
switched on (Some zone) = Some (record zone { on = on })

-- the zones of a task's arm
abbrev pub arm_at : ZonesData → ℕ → List (Option OwnZone)
arm_at zones task = slice_index_or zones.arms task no_zones

-- the same with other zones for one task's arm
abbrev pub with_arm : ZonesData → ℕ → List (Option OwnZone) → ZonesData
with_arm zones task arm = record zones { arms = slice_set zones.arms task arm }

-- the shape of a zone, if there is one, it is on, and it stops the arm
abbrev pub own_shape : Option OwnZone → Option Shape
own_shape None = None
own_shape (Some zone) = if zone.on && is_none zone.output then Some zone.shape else None

-- the shape of a zone of the cell, if it watches the task's arm: while its signal has its value
abbrev pub cell_shape : ℕ → List Bool → CellZone → Option Shape
cell_shape task signals zone = if (zone.task == task) && same_truth (slice_index_or signals zone.signal false) zone.value then Some zone.shape else None

abbrev pub shape_of_cell : ℕ → List Bool → Option CellZone → Option Shape
shape_of_cell task signals None = None
shape_of_cell task signals (Some zone) = cell_shape task signals zone
