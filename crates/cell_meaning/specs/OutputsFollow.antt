-- Outputs follow the zones that they are tied to (RAPID Instructions: WZDOSet).
use Rattle.std.specs.Prelude.{◌≡◌, ◌↔◌, ℕ, true, false, List, ◌++◌, Some}
use Rattle.rapid_num.specs.declared.joints.Joints.{Joints}
use Rattle.joint_clip.specs.Touches.{Touches}
use Rattle.rapid_model.specs.CellData.{CellData}
use Rattle.rapid_model.specs.Limits.{is_input_signal}
use Rattle.rapid_model.specs.declared.event.Event.{Event}
use Rattle.world_zones.specs.declared.output.Output.{Output}
use Rattle.world_zones.specs.declared.own_zone.OwnZone.{OwnZone}
use Rattle.world_zones.specs.Zones.{arm_at, zone_at}
use Rattle.cell_meaning.specs.Motion.{arm_after}
use Rattle.cell_meaning.specs.Stored.{signal_after}
use Rattle.cell_meaning.specs.Zones.{zones_after}

-- After each event, an output that a zone of an arm sets, while the zone is on, has the zone's value exactly if the arm
-- is in the zone. An input is not such an output: the input script may set it.
pub record OutputsFollow (cell : CellData) (history : List Event) : Type 0 where
  pub follows : (before after : List Event) (task number : ℕ) (zone : OwnZone) (output : Output) (at : Joints) → history ≡ before ++ after
      → zone_at (arm_at (zones_after cell before) task) number ≡ Some zone → zone.on ≡ true → zone.output ≡ Some output → is_input_signal cell.signals output.signal ≡ false
      → arm_after cell before task ≡ Some at → (signal_after cell before output.signal ≡ output.value) ↔ Touches at at zone.shape
