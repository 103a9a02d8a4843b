-- Which signals an event sets because a zone of its task's arm is tied to them (RAPID Instructions: WZDOSet).
use Rattle.std.specs.Prelude.{ℕ, Bool, List, [], Option, None, Some, filter_map, option_to_list, slice_set}
use Rattle.std.specs.List.{fold, range_with_len}
use Rattle.rapid_limits.specs.declared.TheConstants.{MOST_ZONES}
use Rattle.rapid_num.specs.declared.joints.Joints.{Joints}
use Rattle.rapid_model.specs.declared.answer.Answer.{Answer}
use Rattle.rapid_model.specs.declared.answer.Answer.TheVariants as answers
use Rattle.rapid_model.specs.declared.request.Request.{Request}
use Rattle.rapid_model.specs.declared.request.Request.TheVariants.{Setpoint, ZoneTie, ZoneOn}
use Rattle.world_zones.specs.declared.own_zone.OwnZone.{OwnZone}
use Rattle.world_zones.specs.Outputs.{output_at}
use Rattle.world_zones.specs.Zones.{zone_at}

-- what a zone sets while its arm is at a position: its signal, and the value that it gets
abbrev pub output_of : List (Option OwnZone) → ℕ → Joints → List (ℕ × Bool)
output_of zones number at = option_to_list (output_at at (zone_at zones number))

-- what all zones of an arm set, by number
abbrev pub all_outputs : List (Option OwnZone) → Joints → List (ℕ × Bool)
all_outputs zones at = filter_map (λ number. output_at at (zone_at zones number)) (range_with_len 1 MOST_ZONES)

-- a task without an arm has no zones
abbrev pub where_arm : (Joints → List (ℕ × Bool)) → Option Joints → List (ℕ × Bool)
where_arm outputs None = []
where_arm outputs (Some at) = outputs at

-- What an event sets, from the zones of its task's arm and the position of the arm, both after the event: a zone that is
-- given or switched on sets its output, and at a setpoint that is given all zones do. A zone that is off sets nothing.
abbrev pub outputs_set : List (Option OwnZone) → Option Joints → Request → Answer → List (ℕ × Bool)
outputs_set zones arm (ZoneTie old temporary shape signal value) (answers.Number number) = where_arm (output_of zones number) arm
outputs_set zones arm (ZoneOn number) answers.Ok = where_arm (output_of zones number) arm
outputs_set zones arm (Setpoint to) answers.Given = where_arm (all_outputs zones) arm
outputs_set zones arm _ _ = []

abbrev pub with_outputs : List Bool → List (ℕ × Bool) → List Bool
with_outputs signals outputs = fold (λ values output. slice_set values output.0 output.1) signals outputs
