-- The zones after a history (RAPID Instructions: WZLimSup, WZDOSet, WZDisable, WZEnable, WZFree).
use Rattle.std.specs.Prelude.{ℕ, true, false, List, None}
use Rattle.std.specs.List.{fold}
use Rattle.rapid_model.specs.CellData.{CellData}
use Rattle.rapid_model.specs.declared.answer.Answer.{Answer}
use Rattle.rapid_model.specs.declared.answer.Answer.TheVariants as answers
use Rattle.rapid_model.specs.declared.event.Event.{Event}
use Rattle.rapid_model.specs.declared.request.Request.{Request}
use Rattle.rapid_model.specs.declared.request.Request.TheVariants.{ZoneSet, ZoneTie, ZoneOn, ZoneOff, ZoneFree}
use Rattle.world_zones.specs.Outputs.{tying}
use Rattle.world_zones.specs.Zones.{ZonesData, before_all, arm_at, with_arm, zone_at, with_zone, given, switched}

-- the zones after an event of a task, from those before it
abbrev pub zones_with : ZonesData → ℕ → Request → Answer → ZonesData
zones_with zones task (ZoneSet old temporary shape) (answers.Number number) = with_arm zones task (with_zone (arm_at zones task) number (given temporary shape))
zones_with zones task (ZoneTie old temporary shape signal value) (answers.Number number) =
    with_arm zones task (with_zone (arm_at zones task) number (tying temporary shape (record { signal = signal; value = value })))
zones_with zones task (ZoneOn zone) answers.Ok = with_arm zones task (with_zone (arm_at zones task) zone (switched true (zone_at (arm_at zones task) zone)))
zones_with zones task (ZoneOff zone) answers.Ok = with_arm zones task (with_zone (arm_at zones task) zone (switched false (zone_at (arm_at zones task) zone)))
zones_with zones task (ZoneFree zone) answers.Ok = with_arm zones task (with_zone (arm_at zones task) zone None)
zones_with zones task _ _ = zones

abbrev pub zones_after : CellData → List Event → ZonesData
zones_after cell history = fold (λ zones e. zones_with zones e.actor e.request e.answer) (before_all cell) history
