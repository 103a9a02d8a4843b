-- A zone that is to set a signal is given as the boards' definition says.
use Rattle.std.proofs.Common.{◌≡◌, ◌<◌, ℕ, Bool, List, length, get_or, None, sym, ◌∙◌, ap}
use Rattle.std.proofs.lemmas.List.{get_or_default}
use Rattle.rapid_num.specs.declared.shape.Shape.{Shape}
use Rattle.rapid_model.specs.CellData.{CellData}
use Rattle.rapid_model.specs.declared.answer.Answer.{Answer}
use Rattle.rapid_model.specs.declared.request.Request.{Request}
use Rattle.rapid_model.specs.declared.request.Request.TheVariants as requests
use Rattle.world_zones.specs.Outputs.{tie_answer}
use Rattle.world_zones.specs.Zones.{ZonesData, arm_at}
use Rattle.cell_meaning.specs.Answers.{tie_number_of}
use Rattle.cell_meaning.specs.Outputs.{outputs_set, with_outputs}
use Rattle.cell_meaning.specs.Zones.{zones_with}
use Rattle.cell_core.specs.Actors.{actor_at, before}
use Rattle.cell_core.specs.Answering.{Answers}
use Rattle.cell_core.specs.Boards.{BoardData}
use Rattle.cell_core.specs.Changes.{set_change}
use Rattle.cell_core.specs.declared.actor.Actor.{Actor}
use Rattle.cell_core.specs.declared.outcome.Outcome.{Outcome}

own_there : (boards : BoardData) (actor : ℕ) (own : Actor) → actor < length boards.actors → own ≡ get_or boards.actors actor own → own ≡ actor_at boards.actors actor
own_there boards actor own there is = is ∙ sym (get_or_default boards.actors actor (before None) own there)

pub tied_right : (cell : CellData) (boards : BoardData) (actor old : ℕ) (temporary : Bool) (shape : Shape) (signal : ℕ) (value : Bool) (own : Actor) (zones : ZonesData) (told : Answer) (outcome : Outcome) (signals : List Bool)
    → let request : Request = requests.ZoneTie old temporary shape signal value in
    actor < length boards.actors → own ≡ get_or boards.actors actor own → told ≡ tie_number_of (tie_answer boards.zones actor old signal) → zones ≡ zones_with boards.zones actor request told → outcome.answer ≡ told
    → outcome.change ≡ set_change boards.signals (arm_at zones actor) own.arm request told → signals ≡ with_outputs boards.signals (outputs_set (arm_at zones actor) own.arm request told)
    → Answers cell boards actor request outcome (record boards { signals = signals; zones = zones })
tied_right cell boards actor old temporary shape signal value own zones told outcome signals there is answered zones_are same change signals_are =
    let request : Request = requests.ZoneTie old temporary shape signal value in
    let own_is = own_there boards actor own there is in
    let arm = (actor_at boards.actors actor).arm in
    let set_for : ZonesData → Answer → List Bool = λ zs n. with_outputs boards.signals (outputs_set (arm_at zs actor) arm request n) in
    record {
      answer = same ∙ answered;
      change = change ∙ ap (λ (a : Actor). set_change boards.signals (arm_at zones actor) a.arm request told) own_is
          ∙ ap (λ (zs : ZonesData). set_change boards.signals (arm_at zs actor) arm request told) zones_are
          ∙ ap (λ (n : Answer). set_change boards.signals (arm_at (zones_with boards.zones actor request n) actor) arm request n) (sym same);
      boards = ap (λ (ss : List Bool). record boards { signals = ss; zones = zones })
          (signals_are ∙ ap (λ (a : Actor). with_outputs boards.signals (outputs_set (arm_at zones actor) a.arm request told)) own_is)
          ∙ ap (λ (zs : ZonesData). record boards { signals = set_for zs told; zones = zs }) zones_are
          ∙ ap (λ (n : Answer). record boards { signals = set_for (zones_with boards.zones actor request n) n; zones = zones_with boards.zones actor request n }) (sym same);
    }
