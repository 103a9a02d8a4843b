-- The cell and the programs stay the same while events are done again.
use Rattle.std.proofs.Common.{◌≡◌, ◌<◌, ◌≤◌, ℕ, List, length, get_or, map, ap, sym, ◌∙◌, subst, arith}
use Rattle.std.specs.Prelude.{All}
use Rattle.std.proofs.lemmas.List.{length-map}
use Rattle.rapid_model.specs.CellData.{CellData}
use Rattle.rapid_model.specs.declared.answer.Answer.{Answer}
use Rattle.rapid_model.specs.declared.event.Event.{Event}
use Rattle.rapid_model.specs.declared.request.Request.{Request}
use Rattle.cell_meaning.specs.Asking.{Asking}
use Rattle.cell_crew.specs.Courses.{SuitTasks}
use Rattle.cell_crew.specs.Crew.{AskAsPrograms}

-- the actor of an event is one of the cell's
pub actor_within : (events : List Event) (k : ℕ) (e : Event) (first cell : CellData) → cell ≡ first → All (λ (x : Event). x.actor ≤ length first.tasks) events → k < length events → e ≡ get_or events k e → e.actor ≤ length cell.tasks
actor_within events k e first cell same all lt at =
    let within : (get_or events k e).actor ≤ length first.tasks = all k e lt in
    subst (λ (c : CellData). e.actor ≤ length c.tasks) (sym same) (subst (λ (x : Event). x.actor ≤ length first.tasks) (sym at) within)

module _ {M P : Type 0} (program : M → P) where
  -- as many machines as tasks
  pub still_one_each : (start machines : List M) (first cell : CellData) → cell ≡ first → map program machines ≡ map program start → length start ≡ length first.tasks → length machines ≡ length cell.tasks
  still_one_each start machines first cell same programs one_each =
      sym (length-map machines program) ∙ ap length programs ∙ length-map start program ∙ one_each ∙ sym (ap (λ (c : CellData). length c.tasks) same)

module _ {M P : Type 0} (program : M → P) (fits : P → List Answer → Type 0) (program_asks : P → List Answer → Request → Type 0) where
  pub asks_still : (asks : Asking) (start machines : List M) → map program machines ≡ map program start → AskAsPrograms fits program_asks asks (map program start) → AskAsPrograms fits program_asks asks (map program machines)
  asks_still asks start machines programs ask = subst (λ (ps : List P). AskAsPrograms fits program_asks asks ps) (sym programs) ask

  pub suits_still : (start machines : List M) (first cell : CellData) → cell ≡ first → map program machines ≡ map program start → SuitTasks fits program_asks first (map program start)
      → SuitTasks fits program_asks cell (map program machines)
  suits_still start machines first cell same programs suit =
      subst (λ (c : CellData). SuitTasks fits program_asks c (map program machines)) (sym same) (subst (λ (ps : List P). SuitTasks fits program_asks first ps) (sym programs) suit)
