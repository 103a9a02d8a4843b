-- A legal history, done again by a core and machines.
use Rattle.std.proofs.Common.{◌≡◌, ◌<◌, ◌≤◌, inl, inr, refl, sym, ap, ◌∙◌, subst, ℕ, List, [], ◌∷◌, ◌++◌, length, map, take, drop, get_or, zero, suc, Some, arith}
use Rattle.std.specs.Prelude.{All, slice_get}
use Rattle.std.proofs.lemmas.List.{length-map}
use Rattle.rapid_model.specs.CellData.{CellData}
use Rattle.rapid_model.specs.Own.{answers_of}
use Rattle.rapid_model.specs.declared.event.Event.{Event}
use Rattle.rapid_model.specs.declared.value.Value.{Value}
use Rattle.stack_code.specs.CodeData.{CodeData}
use Rattle.task_code.specs.Asking.{CodeAsks}
use Rattle.task_code.specs.Live.{CodeFits}
use Rattle.cell_meaning.specs.Asking.{Asking, with_inputs}
use Rattle.cell_meaning.specs.Histories.{IsLegal}
use Rattle.cell_meaning.specs.Stored.{persistents_after}
use Rattle.cell_crew.specs.Courses.{SuitTasks, SuitsTask}
use Rattle.cell_crew.specs.Crew.{AskAsPrograms, AsksAsProgram}
use Rattle.cell_crew.proofs.Crews.{map_at}
use Rattle.task_machine.specs.MachineData.{MachineData}
use Rattle.cell_state.specs.Codes.{IsReachedBy, IsStateByCodes}
use Rattle.cell_state.specs.States.{TaskStateData}

-- the codes of machines
abbrev pub codes_of : List MachineData → List CodeData
codes_of machines = map (λ (m : MachineData). m.code) machines

-- the split of a list at an element
cut_at : (es : List Event) (k : ℕ) (d : Event) → k < length es → es ≡ take k es ++ get_or es k d ∷ drop (suc k) es
cut_at [] k d within = absurd (omega (arith, within))
cut_at (x ∷ es) zero d within = refl
cut_at (x ∷ es) (suc k) d within = ap (λ (ys : List Event). x ∷ ys) (cut_at es k d (omega (arith, within)))

-- each actor of a legal history is a task or the input script
pub legal_actors : (asks : Asking) (cell : CellData) (events : List Event) → IsLegal (with_inputs asks cell) cell events → All (λ (e : Event). e.actor ≤ length cell.tasks) events
legal_actors asks cell events legal = λ k d within.
    let e : Event = get_or events k d in
    by e (take k events) (legal.at (take k events) (drop (suc k) events) e (cut_at events k d within)).asked
  where
    by : (e : Event) (before : List Event) → with_inputs asks cell e.actor (answers_of e.actor before) e.request → e.actor ≤ length cell.tasks
    by e before (inl task) = let within = task.task in omega (arith, within)
    by e before (inr script) = let is = script.script in omega (arith, is)

-- a task asks what its machine's code asks, which suits it
pub code_asked : (asks : Asking) (machines : List MachineData) (task : ℕ) (m : MachineData) → AskAsPrograms CodeFits CodeAsks asks (codes_of machines) → slice_get machines task ≡ Some m
    → AsksAsProgram CodeFits CodeAsks asks task m.code
code_asked asks machines task m ask at = ask.each task m.code (map_at (λ (x : MachineData). x.code) machines task m at)

pub code_suits : (cell : CellData) (machines : List MachineData) (task : ℕ) (m : MachineData) → SuitTasks CodeFits CodeAsks cell (codes_of machines) → slice_get machines task ≡ Some m
    → SuitsTask CodeFits CodeAsks cell task m.code
code_suits cell machines task m suit at = suit.each task m.code (map_at (λ (x : MachineData). x.code) machines task m at)

-- as many machines as before
pub as_many : (machines start : List MachineData) (n : ℕ) → codes_of machines ≡ codes_of start → length start ≡ n → length machines ≡ n
as_many machines start n same count = sym (length-map machines (λ (m : MachineData). m.code)) ∙ ap length same ∙ length-map start (λ (m : MachineData). m.code) ∙ count

-- what was seen at the core and the machines afterwards
pub state_there : (first cell : CellData) (start machines : List MachineData) (events history : List Event) (tasks : List TaskStateData) (pers : List (List Value)) → cell ≡ first → codes_of machines ≡ codes_of start
    → history ≡ events → length tasks ≡ length machines
    → ((task : ℕ) (code : CodeData) (here : TaskStateData) → slice_get (codes_of machines) task ≡ Some code → slice_get tasks task ≡ Some here → IsReachedBy code (answers_of task history) here)
    → pers ≡ persistents_after cell history → IsStateByCodes first (codes_of start) events (record { tasks = tasks; pers = pers })
state_there first cell start machines events history tasks pers same_cell same_codes same_events count each are =
    subst (λ (c : CellData). IsStateByCodes c (codes_of start) events (record { tasks = tasks; pers = pers })) same_cell
    (subst (λ (cs : List CodeData). IsStateByCodes cell cs events (record { tasks = tasks; pers = pers })) same_codes
    (subst (λ (h : List Event). IsStateByCodes cell (codes_of machines) h (record { tasks = tasks; pers = pers })) same_events
    (record { one_each = count ∙ sym (length-map machines (λ (m : MachineData). m.code)); tasks = each; pers = are })))
