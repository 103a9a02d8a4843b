-- What the calls of a gate make of a pass, and what the passes say of the history.
use Rattle.std.specs.Prelude.{◌≡◌, ℕ, zero, suc, ◌+◌, ◌<◌, ◌≤◌, false, List, [], ◌∷◌, ◌++◌, length, IsTrue, All, Any}
use mathlib.Core.List.{IsPrefix}
use Rattle.rapid_model.specs.Fits.{fits_request, fitting_in}
use Rattle.rapid_model.specs.Own.{part_of}
use Rattle.rapid_model.specs.declared.answer.Answer.{Answer}
use Rattle.rapid_model.specs.declared.answer.Answer.TheVariants as answers
use Rattle.rapid_model.specs.declared.event.Event.{Event}
use Rattle.rapid_model.specs.declared.request.Request.{Request}
use Rattle.rapid_model.specs.declared.request.Request.TheVariants as requests
use Rattle.cell_meaning.specs.Counted.{can_be_served}
use Rattle.cell_meaning.specs.MayAsk.{may_ask}
use Rattle.cell_core.specs.Serving.{IsAnswered, event_of}
use Rattle.cell_gate.specs.declared.acted.Acted.{Acted}
use Rattle.cell_gate.specs.declared.acted.Acted.TheVariants as acted
use Rattle.cell_gate.specs.declared.fed.Fed.{Fed}
use Rattle.cell_gate.specs.declared.fed.Fed.TheVariants as fed
use Rattle.cell_gate.specs.declared.now.Now.{Now}
use Rattle.cell_gate.specs.declared.now.Now.TheVariants as now
use Rattle.cell_gate.specs.declared.rose.Rose.{Rose}
use Rattle.cell_gate.specs.declared.rose.Rose.TheVariants as rose
use Rattle.cell_gate.specs.Causes.{StaysHeld, FeedsNone, is_over}
use Rattle.cell_gate.specs.GateData.{GateData}
use Rattle.cell_gate.specs.PassData.{PassData}

-- the actor may ask this, by its own events
abbrev pub MayAsk : PassData → Request → Type 0
MayAsk p request = IsTrue (may_ask p.gate.cell p.actor p.mine request)

-- the pass is still that of the same gate and actor
pub record IsSameHolder (old new : PassData) : Type 0 where
  pub gate_is : new.gate ≡ old.gate
  pub actor_is : new.actor ≡ old.actor

-- The call is one event, which came after these, among them all that the pass had seen. It has the core's answer, which
-- fits the request after the actor's own events. Now the pass has seen it, and it is the last of the pass's own events.
pub record PassGained (old : PassData) (before : List Event) (request : Request) (answer : Answer) (new : PassData) : Type 0 where
  pub begins : IsPrefix old.seen before
  pub answered : IsAnswered old.gate.cell before old.actor request answer
  pub fits : IsTrue (fits_request (fitting_in old.gate.cell old.actor old.mine) request answer)
  pub seen : new.seen ≡ before ++ event_of old.actor request answer ∷ []
  pub mine : new.mine ≡ old.mine ++ event_of old.actor request answer ∷ []
  pub own : new.mine ≡ part_of old.actor new.seen

-- The call added no event. It did take the turn, so what the pass has seen is the whole history at a step of this call.
pub record Looked (old new : PassData) : Type 0 where
  pub begins : IsPrefix old.seen new.seen
  pub mine : new.mine ≡ old.mine
  pub own : new.mine ≡ part_of old.actor new.seen
  pub looks : old.looks < new.looks

abbrev pub ActedAs : PassData → Request → Acted → PassData → Type 0
ActedAs old request (acted.Done answer) new = (before : List Event) × PassGained old before request answer new
ActedAs old request acted.Spent new = Looked old new × (can_be_served old.gate.cell new.seen request ≡ false)

abbrev pub RoseNow : PassData → Now → PassData → Type 0
RoseNow old now.Woken new = (before : List Event) × PassGained old before requests.Rise answers.Ok new
RoseNow old other new = Looked old new × StaysHeld old.gate.cell new.seen old.actor other

-- the answer that ends the wait
abbrev pub now_of : Rose → Now
now_of rose.Woken = now.Woken
now_of rose.Stalled = now.Stalled
now_of rose.Spent = now.Spent

abbrev pub RoseAs : PassData → Rose → PassData → Type 0
RoseAs old ended new = RoseNow old (now_of ended) new

abbrev pub FedNow : PassData → Fed → PassData → Type 0
FedNow old fed.Given new = (before : List Event) × PassGained old before (requests.Input (length old.mine)) answers.Ok new × (is_over old.gate.cell before ≡ false)
FedNow old other new = Looked old new × FeedsNone old.gate.cell new.seen (length old.mine) other

-- the pass of an actor that has seen and done nothing
abbrev pub fresh_pass : GateData → ℕ → PassData
fresh_pass gate actor = record { gate = gate; actor = actor; seen = []; mine = []; looks = 0 }

-- the fresh passes of this many actors in order, starting with this one
abbrev pub fresh_passes : GateData → ℕ → ℕ → List PassData
fresh_passes gate actor zero = []
fresh_passes gate actor (suc others) = fresh_pass gate actor ∷ fresh_passes gate (actor + 1) others

-- the passes are the gate's, and each task and the input script has one among them
pub record AreAllPasses (gate : GateData) (passes : List PassData) : Type 0 where
  pub of_gate : All (λ p. p.gate ≡ gate) passes
  pub every : (actor : ℕ) → actor ≤ length gate.cell.tasks → Any (λ p. p.actor ≡ actor) passes

-- each pass has seen a prefix of the history, and has its actor's events in it
pub record AreOfHistory (passes : List PassData) (history : List Event) : Type 0 where
  pub begins : All (λ p. IsPrefix p.seen history) passes
  pub mine : All (λ p. p.mine ≡ part_of p.actor history) passes
