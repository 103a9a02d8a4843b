-- What the history of a run comes to: its status, the tasks that wait, and the zones that its setpoints miss.
use Rattle.std.specs.Prelude.{◌≡◌, ℕ, Bool, true, false, List, ◌∷◌, ◌++◌, length, Some, if◌then◌else◌}
use Rattle.std.specs.List.{list_any}
use Rattle.rapid_num.specs.declared.joints.Joints.{Joints}
use Rattle.rapid_num.specs.declared.shape.Shape.{Shape}
use Rattle.joint_clip.specs.Touches.{Touches}
use Rattle.rapid_model.specs.CellData.{CellData}
use Rattle.rapid_model.specs.Own.{answers_of}
use Rattle.rapid_model.specs.declared.answer.Answer.TheVariants as answers
use Rattle.rapid_model.specs.declared.event.Event.{Event}
use Rattle.rapid_model.specs.declared.fate.Fate.{Fate}
use Rattle.rapid_model.specs.declared.fate.Fate.TheVariants as fates
use Rattle.rapid_model.specs.declared.request.Request.TheVariants.{Setpoint, Rise}
use Rattle.rapid_model.specs.declared.zone_name.ZoneName.{ZoneName}
use Rattle.typed_trees.specs.Plain.{TypedTree}
use Rattle.rapid_meaning.specs.Asking.{tree_asks}
use Rattle.world_zones.specs.Touched.{supervised}
use Rattle.cell_meaning.specs.Fates.{all_ended, is_spent, fates_after}
use Rattle.cell_meaning.specs.Motion.{arm_after}
use Rattle.cell_meaning.specs.Rising.{can_rise}
use Rattle.cell_meaning.specs.Stored.{signals_after}
use Rattle.cell_meaning.specs.Zones.{zones_after}

-- on its whole path from where the arm was, each setpoint that was given misses every zone that then watched the arm
pub record MissesZones (cell : CellData) (history : List Event) : Type 0 where
  pub misses : (before after : List Event) (e : Event) (from to : Joints) (name : ZoneName) (shape : Shape) → history ≡ before ++ e ∷ after → e.request ≡ Setpoint to → e.answer ≡ answers.Given
      → arm_after cell before e.actor ≡ Some from → supervised (zones_after cell before) e.actor (signals_after cell before) name ≡ Some shape → ¬ Touches from to shape

abbrev pub is_fault : Fate → Bool
is_fault (fates.Fault fault) = true
is_fault _ = false

-- The status of a printed run. If all tasks ended, 1 if one ended with a fault, else 0. Otherwise 9 if the steps are
-- spent, and 8 if no task that has not ended can go on.
abbrev pub run_status : CellData → List Event → ℕ
run_status cell history =
    if all_ended (length cell.tasks) history then
    (if list_any is_fault (fates_after cell history (length cell.tasks)) then 1 else 0)
    else if is_spent cell history then 9
    else 8

-- after the history the task asks to resume, and cannot
pub record WaitsToRise (cell : CellData) (trees : List TypedTree) (history : List Event) (task : ℕ) : Type 0 where
  pub asks : tree_asks trees task (answers_of task history) Rise
  pub cannot : can_rise cell history task ≡ false
