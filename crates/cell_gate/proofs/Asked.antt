-- What the core is asked in a turn, and what it may answer.
use Rattle.std.proofs.Common.{◌≡◌, inl, inr, ℕ, ◌<◌, Bool, true, false, not, ◌&&◌, ◌||◌, List, length, refl, ◌∙◌, ap, arith}
use Rattle.std.specs.Prelude.{IsTrue, nat_le}
use Rattle.std.proofs.lemmas.Bool.{leb-false, or_parts, true≢false}
use Rattle.std.proofs.lemmas.Option.{slice_get_cases}
use Rattle.rapid_model.specs.CellData.{CellData}
use Rattle.rapid_model.specs.Own.{part_of, has_ended, is_held}
use Rattle.rapid_model.specs.Requests.{goes_with}
use Rattle.rapid_model.specs.declared.event.Event.{Event}
use Rattle.rapid_model.specs.declared.request.Request.{Request}
use Rattle.rapid_model.specs.declared.request.Request.TheVariants as requests
use Rattle.cell_meaning.specs.Answers.{is_enabled}
use Rattle.cell_meaning.specs.Fates.{all_ended, is_spent}
use Rattle.cell_meaning.specs.Inputs.{inputs_done}
use Rattle.cell_meaning.specs.MayAsk.{may_ask}
use Rattle.cell_meaning.specs.Stalled.{is_stalled}
use Rattle.cell_meaning.proofs.Asked.{suits_by}
use Rattle.cell_meaning.proofs.InputScript.{script_may}
use Rattle.cell_core.specs.CoreData.{CoreData}
use Rattle.cell_gate.specs.Causes.{is_over, may_wait}

-- a core with the same cell and history is the same
pub same_core : (old new : CoreData) → new.cell ≡ old.cell → new.history ≡ old.history → new ≡ old
same_core old new cell history = λ i. record { cell = cell i; history = history i }

-- a request that never waits is enabled
pub never_waits : (cell : CellData) (history : List Event) (actor : ℕ) (request : Request) → may_wait request ≡ false → is_enabled cell history actor request ≡ true
never_waits cell history actor requests.Rise plain = absurd (true≢false plain)
never_waits cell history actor (requests.Input index) plain = absurd (true≢false plain)
never_waits cell history actor _ plain = refl

-- a held task that has not ended may ask a Rise
pub rise_may : (cell : CellData) (history : List Event) (task : ℕ) → task < length cell.tasks → has_ended (part_of task history) ≡ false → is_held (part_of task history) ≡ true
    → IsTrue (may_ask cell task (part_of task history) requests.Rise)
rise_may cell history task within going held =
    elim (slice_get_cases cell.tasks task).1 [
      | inl it ↦ ap (suits_by cell task (part_of task history) requests.Rise) it.2
          ∙ both (has_ended (part_of task history)) (is_held (part_of task history)) going held
      | inr past ↦ (let le = past.0 in absurd (omega (arith, within, le)))
    ]
  where
    both : (ended held : Bool) → ended ≡ false → held ≡ true → ((not ended && goes_with held true) && true) ≡ true
    both ended held p q = rw (p, q) refl

-- while not all is over, the input script may ask for its next step
pub next_may : (cell : CellData) (history : List Event) → is_over cell history ≡ false → IsTrue (may_ask cell (length cell.tasks) (part_of (length cell.tasks) history) (requests.Input (inputs_done cell history)))
next_may cell history going =
    let done = nat_le (length cell.inputs) (inputs_done cell history) in
    let ended = all_ended (length cell.tasks) history in
    let not_stalled = or_parts (done || ended || is_spent cell history) (is_stalled cell history) going in
    let not_spent = or_parts (done || ended) (is_spent cell history) not_stalled.0 in
    let left = or_parts done ended not_spent.0 in
    script_may cell (part_of (length cell.tasks) history) (leb-false (length cell.inputs) (inputs_done cell history) left.0)
