-- Zones that set outputs (RAPID Instructions: WZDOSet).
use Rattle.std.specs.Prelude.{ℕ, Bool, true, false, ◌==◌, if◌then◌else◌, List, Option, None, Some, option_map, Result, Ok, Err}
use Rattle.std.specs.List.{list_any}
use Rattle.rapid_num.specs.declared.joints.Joints.{Joints}
use Rattle.rapid_num.specs.declared.shape.Shape.{Shape}
use Rattle.joint_clip.specs.Lying.{lies_in}
use Rattle.rapid_model.specs.Truths.{same_truth}
use Rattle.world_zones.specs.declared.output.Output.{Output}
use Rattle.world_zones.specs.declared.own_zone.OwnZone.{OwnZone}
use Rattle.world_zones.specs.declared.tie_fault.TieFault.{TieFault}
use Rattle.world_zones.specs.declared.tie_fault.TieFault.TheVariants as tie_faults
use Rattle.world_zones.specs.declared.zone_fault.ZoneFault.{ZoneFault}
use Rattle.world_zones.specs.declared.zone_fault.ZoneFault.TheVariants as zone_faults
use Rattle.world_zones.specs.Zones.{ZonesData, arm_at, set_answer}

abbrev pub sets : ℕ → Option Output → Bool
sets signal None = false
sets signal (Some output) = output.signal == signal

-- a zone names the signal as its output, whether it is on or off
abbrev pub ties : ℕ → Option OwnZone → Bool
ties signal None = false
ties signal (Some zone) = sets signal zone.output

-- a zone of some arm names the signal
abbrev pub is_tied : ZonesData → ℕ → Bool
is_tied zones signal = list_any (λ arm. list_any (ties signal) arm) zones.arms

-- an answer to a new zone, unless its output is tied
abbrev pub unless_tied : Bool → Result ℕ ZoneFault → Result ℕ TieFault
unless_tied tied (Err zone_faults.ZoneUsed) = Err tie_faults.ZoneUsed
unless_tied tied (Err zone_faults.ZoneFull) = Err tie_faults.ZoneFull
unless_tied tied (Ok number) = if tied then Err tie_faults.Tied else Ok number

-- the answer to a new zone that sets an output: `ZoneUsed` if the old number is a zone, `ZoneFull` if no number is free,
-- `Tied` if a zone of some arm names the signal, otherwise the least free number
abbrev pub tie_answer : ZonesData → ℕ → ℕ → ℕ → Result ℕ TieFault
tie_answer zones task old signal = unless_tied (is_tied zones signal) (set_answer (arm_at zones task) old)

-- newly given: on, and sets the output
abbrev pub tying : Bool → Shape → Output → Option OwnZone
tying temporary shape output = Some (record { temporary = temporary; on = true; shape = shape; output = Some output })

-- the signal that a zone sets while the arm is at a position, with the value that it gets: the zone's if the position
-- lies in the shape, otherwise the other one; none if there is no zone, it is off, or it stops the arm
abbrev pub output_at : Joints → Option OwnZone → Option (ℕ × Bool)
output_at at None = None
output_at at (Some zone) = if zone.on then option_map (λ o. (o.signal, same_truth (lies_in zone.shape at) o.value)) zone.output else None
