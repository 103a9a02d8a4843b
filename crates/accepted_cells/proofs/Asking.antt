-- The tasks of an accepted cell ask only what they may, and ask something until their End.
use Rattle.std.proofs.Common.{◌≡◌, refl, sym, subst, ℕ, ◌<◌, false, List, length, map, Some, slice_get}
use Rattle.std.specs.Prelude.{IsTrue}
use Rattle.rapid_model.specs.Own.{part_of, answers_of, has_ended}
use Rattle.rapid_model.specs.Requests.{suits_actor}
use Rattle.rapid_model.specs.ScriptData.{ScriptData}
use Rattle.rapid_model.specs.declared.answer.Answer.{Answer}
use Rattle.rapid_model.specs.declared.event.Event.{Event}
use Rattle.rapid_model.specs.declared.request.Request.{Request}
use Rattle.typed_trees.specs.Plain.{TypedTree}
use Rattle.cell_assembly.specs.Made.{MadeCell}
use Rattle.cell_meaning.specs.Asking.{with_inputs}
use Rattle.cell_meaning.specs.Histories.{IsLegal}
use Rattle.cell_meaning.specs.MayAsk.{may_ask}
use Rattle.cell_meaning.specs.Premises.{AsksOne, TasksAskWell}
use Rattle.rapid_meaning.specs.Asking.{tree_asks}
use Rattle.rapid_meaning.specs.Runs.{asks, asked_after}
use Rattle.rapid_meaning.proofs.Asking as one_request
use Rattle.tree_typing.specs.OwnEvents.{AreOwn, own_events}
use Rattle.tree_typing.proofs.Own.{are_own, may_be_asked}
use Rattle.tree_typing.proofs.Until.{asks_on}
use Rattle.accepted_cells.specs.Accepted.{IsAccepted}
use Rattle.accepted_cells.proofs.Accepted.{accepted_right}
use Rattle.accepted_cells.proofs.Parts.{asks_by, due_by, own_part, tree_fit, tree_own}
use Rattle.accepted_cells.proofs.Trees.{tree_there}

pub asks_one : (trees : List TypedTree) → AsksOne (tree_asks trees)
asks_one trees = record { one = λ actor answers r r' p q. one_request.one trees actor answers r r' p q }

-- what a task asks after its own events
pub may_next : (script : ScriptData) (made : MadeCell) (task : ℕ) (tree : TypedTree) (mine : List Event) (request : Request) → IsAccepted script made → slice_get made.trees task ≡ Some tree
    → AreOwn task tree mine → asked_after tree (map (λ (e : Event). e.answer) mine) ≡ asks request → IsTrue (may_ask made.cell task mine request)
may_next script made task tree mine request accepted there own due =
    let h = accepted_right script made task tree accepted there in
    let answers : List Answer = map (λ (e : Event). e.answer) mine in
    let suits : IsTrue (suits_actor made.cell task (own_events task tree answers) request) = may_be_asked made.cell task h.row tree answers request h.there h.typed h.numbered due in
    subst (λ (events : List Event). IsTrue (suits_actor made.cell task events request)) (sym (are_own task tree mine own)) suits

may : (script : ScriptData) (made : MadeCell) (history : List Event) (task : ℕ) (request : Request) → IsAccepted script made → task < length made.cell.tasks
    → IsLegal (with_inputs (tree_asks made.trees) made.cell) made.cell history → tree_asks made.trees task (answers_of task history) request
    → IsTrue (may_ask made.cell task (part_of task history) request)
may script made history task request accepted within legal asking =
    let t = tree_there script made task accepted within in
    may_next script made task t.0 (part_of task history) request accepted t.1
    (tree_own made.cell task t.0 (part_of task history) (own_part made.trees made.cell history task t.0 within t.1 legal))
    (due_by made.trees task t.0 (answers_of task history) request t.1 asking)

goes_on : (script : ScriptData) (made : MadeCell) (history : List Event) (task : ℕ) → IsAccepted script made → task < length made.cell.tasks
    → IsLegal (with_inputs (tree_asks made.trees) made.cell) made.cell history → has_ended (part_of task history) ≡ false
    → (request : Request) × tree_asks made.trees task (answers_of task history) request
goes_on script made history task accepted within legal going =
    let t = tree_there script made task accepted within in
    let h = accepted_right script made task t.0 accepted t.1 in
    let mine : List Event = part_of task history in
    let course = own_part made.trees made.cell history task t.0 within t.1 legal in
    let next : (request : Request) × (asked_after t.0 (answers_of task history) ≡ asks request) =
    asks_on (length made.cell.signals) made.cell task t.0 mine h.typed h.numbered (tree_own made.cell task t.0 mine course) (tree_fit made.cell task t.0 mine course) going in
    (next.0, asks_by made.trees task t.0 (answers_of task history) next.0 t.1 next.1)

pub ask_well : (script : ScriptData) (made : MadeCell) → IsAccepted script made → TasksAskWell (tree_asks made.trees) made.cell
ask_well script made accepted = record {
  may = λ history task request within legal asking. may script made history task request accepted within legal asking;
  goes_on = λ history task within legal going. goes_on script made history task accepted within legal going;
}
