-- The outcome of one request to the core, in a turn.
use Rattle.std.specs.Prelude.{◌≡◌, ℕ, Bool, true, false, List, [], ◌∷◌, ◌++◌, length, IsTrue}
use Rattle.rapid_model.specs.Fits.{fits_request, fitting_in}
use Rattle.rapid_model.specs.Own.{part_of}
use Rattle.rapid_model.specs.declared.answer.Answer.{Answer}
use Rattle.rapid_model.specs.declared.answer.Answer.TheVariants as answers
use Rattle.rapid_model.specs.declared.event.Event.{Event}
use Rattle.rapid_model.specs.declared.request.Request.{Request}
use Rattle.rapid_model.specs.declared.request.Request.TheVariants as requests
use Rattle.cell_meaning.specs.Counted.{can_be_served}
use Rattle.cell_meaning.specs.Inputs.{inputs_done}
use Rattle.cell_core.specs.CoreData.{CoreData}
use Rattle.cell_core.specs.Serving.{IsAnswered, event_of}
use Rattle.cell_gate.specs.declared.acted.Acted.{Acted}
use Rattle.cell_gate.specs.declared.acted.Acted.TheVariants as acted
use Rattle.cell_gate.specs.declared.fed.Fed.{Fed}
use Rattle.cell_gate.specs.declared.fed.Fed.TheVariants as fed
use Rattle.cell_gate.specs.declared.now.Now.{Now}
use Rattle.cell_gate.specs.declared.now.Now.TheVariants as now
use Rattle.cell_gate.specs.Causes.{StaysHeld, FeedsNone, is_over}

-- the history gained an event of the actor if it grew, and otherwise none
pub record GainedIf (actor : ℕ) (before after : List Event) (grew : Bool) : Type 0 where
  pub gained : grew ≡ true → (e : Event) × (e.actor ≡ actor) × (after ≡ before ++ e ∷ [])
  pub same : grew ≡ false → after ≡ before

-- the request got the core's answer, which fits, and is one more event
pub record CoreGained (old : CoreData) (actor : ℕ) (request : Request) (answer : Answer) (new : CoreData) : Type 0 where
  pub answered : IsAnswered old.cell old.history actor request answer
  pub fits : IsTrue (fits_request (fitting_in old.cell actor (part_of actor old.history)) request answer)
  pub cell : new.cell ≡ old.cell
  pub history : new.history ≡ old.history ++ event_of actor request answer ∷ []

abbrev pub is_done : Acted → Bool
is_done (acted.Done answer) = true
is_done acted.Spent = false

-- the outcome of a request that is always enabled
abbrev pub Acts : CoreData → ℕ → Request → Acted → CoreData → Type 0
Acts old actor request (acted.Done answer) new = CoreGained old actor request answer new
Acts old actor request acted.Spent new = (new ≡ old) × (can_be_served old.cell old.history request ≡ false)

abbrev pub is_woken : Now → Bool
is_woken now.Woken = true
is_woken _ = false

-- the outcome of the Rise of a held task
abbrev pub Rises : CoreData → ℕ → Now → CoreData → Type 0
Rises old task now.Woken new = CoreGained old task requests.Rise answers.Ok new
Rises old task other new = (new ≡ old) × StaysHeld old.cell old.history task other

abbrev pub is_given : Fed → Bool
is_given fed.Given = true
is_given _ = false

-- the outcome of the next step of the input script
abbrev pub Feeds : CoreData → Fed → CoreData → Type 0
Feeds old fed.Given new = CoreGained old (length old.cell.tasks) (requests.Input (inputs_done old.cell old.history)) answers.Ok new × (is_over old.cell old.history ≡ false)
Feeds old other new = (new ≡ old) × FeedsNone old.cell old.history (inputs_done old.cell old.history) other
