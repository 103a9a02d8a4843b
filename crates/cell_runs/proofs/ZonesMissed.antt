-- Setpoints that were given miss the zones that watched the arm.
use Rattle.std.proofs.Common.{◌≡◌, ℕ, List, Some, subst}
use Rattle.std.specs.Prelude.{Option}
use Rattle.rapid_num.specs.declared.joints.Joints.{Joints}
use Rattle.rapid_num.specs.declared.shape.Shape.{Shape}
use Rattle.joint_clip.specs.Touches.{Touches}
use Rattle.rapid_model.specs.CellData.{CellData}
use Rattle.rapid_model.specs.declared.answer.Answer.{Answer}
use Rattle.rapid_model.specs.declared.answer.Answer.TheVariants as answers
use Rattle.rapid_model.specs.declared.event.Event.{Event}
use Rattle.rapid_model.specs.declared.request.Request.{Request}
use Rattle.rapid_model.specs.declared.request.Request.TheVariants.{Setpoint}
use Rattle.rapid_model.specs.declared.zone_name.ZoneName.{ZoneName}
use Rattle.world_zones.specs.First.{Stops}
use Rattle.world_zones.specs.Touched.{supervised}
use Rattle.cell_meaning.specs.Answers.{IsAnswer, IsMoveAnswer}
use Rattle.cell_meaning.specs.Asking.{Asking}
use Rattle.cell_meaning.specs.Histories.{IsLegal}
use Rattle.cell_meaning.specs.Motion.{arm_after}
use Rattle.cell_meaning.specs.Stored.{signals_after}
use Rattle.cell_meaning.specs.Zones.{zones_after}
use Rattle.cell_runs.specs.Outcomes.{MissesZones}

one_missed : (cell : CellData) (before : List Event) (actor : ℕ) (request : Request) (answer : Answer) (from to : Joints) (name : ZoneName) (shape : Shape) → IsAnswer cell before actor request answer
    → request ≡ Setpoint to → answer ≡ answers.Given → arm_after cell before actor ≡ Some from → supervised (zones_after cell before) actor (signals_after cell before) name ≡ Some shape → ¬ Touches from to shape
one_missed cell before actor request answer from to name shape is asked given at watched touched =
    let to_setpoint : IsAnswer cell before actor (Setpoint to) answers.Given =
    subst (λ (r : Request). IsAnswer cell before actor r answers.Given) asked (subst (λ (a : Answer). IsAnswer cell before actor request a) given is) in
    let from_there : IsMoveAnswer cell before actor to (Some from) answers.Given = subst (λ (o : Option Joints). IsMoveAnswer cell before actor to o answers.Given) at to_setpoint in
    let stops : Stops from to (supervised (zones_after cell before) actor (signals_after cell before) name) = record { shape = shape; is = watched; touched = touched } in
    from_there name stops

pub zones_missed : (asks : Asking) (cell : CellData) (history : List Event) → IsLegal asks cell history → MissesZones cell history
zones_missed asks cell history legal = record {
  misses = λ before after e from to name shape cut asked given at watched.
      one_missed cell before e.actor e.request e.answer from to name shape (legal.at before after e cut).answered asked given at watched;
}
