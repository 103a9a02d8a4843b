-- The tasks of a cell as a crew.
use Rattle.cell_crew.specs.Courses.{SuitTasks}
use Rattle.cell_crew.specs.Crew.{AskAsPrograms, IsCrew}
use Rattle.cell_gate.specs.Calls.{fresh_passes}
use Rattle.cell_gate.specs.GateData.{GateData}
use Rattle.cell_gate.specs.PassData.{PassData}
use Rattle.cell_meaning.specs.Asking.{Asking, with_inputs}
use Rattle.cell_meaning.specs.Histories.{IsLegal, IsWhole}
use Rattle.cell_meaning.specs.Turns.{IsByTurns}
use Rattle.cell_state.specs.Codes.{IsStateByCodes}
use Rattle.cell_state.specs.States.{CellStateData}
use Rattle.cell_runs.proofs.Compiling.{code_in, code_of, is_new}
use Rattle.history_audit.specs.Audits.{IsAudit}
use Rattle.history_audit.specs.declared.audit_fault.AuditFault.{AuditFault}
use Rattle.rapid_model.specs.CellData.{CellData}
use Rattle.rapid_model.specs.declared.event.Event.{Event}
use Rattle.rapid_model.specs.declared.fate.Fate.{Fate}
use Rattle.stack_code.specs.CodeData.{CodeData}
use Rattle.stack_code.specs.Compiled.{compiled}
use Rattle.std.proofs.Common.{◌≡◌, List, length, map, Bool, Result, ap, sym, ◌∙◌, subst, ◌+◌}
use Rattle.std.proofs.lemmas.List.{length-map}
use Rattle.std.specs.List.{AllByRecursion}
use Rattle.task_code.specs.Asking.{CodeAsks}
use Rattle.task_code.specs.Live.{CodeFits}
use Rattle.task_machine.specs.MachineData.{MachineData}
use Rattle.typed_trees.specs.Plain.{TypedTree}
use Rattle.typed_trees.specs.Views.{view_tree}
use Rattle.typed_trees.specs.declared.tree.Tree.{Tree}

-- there is a machine for each task, and none has asked anything
pub crew_is : (cell here : CellData) (machines : List MachineData) (trees : List Tree) → code_in machines ≡ code_of trees → AllByRecursion is_new machines → length trees ≡ length cell.tasks → here ≡ cell
    → IsCrew is_new machines here
crew_is cell here machines trees coded fresh one_each same = record {
  one_each =
      sym (length-map machines (λ (m : MachineData). m.code)) ∙ ap length coded ∙ length-map (map view_tree trees) compiled ∙ length-map trees view_tree ∙ one_each
      ∙ ap (λ (c : CellData). length c.tasks) (sym same);
  fresh = fresh;
}

-- each task asks as its program does, which suits it

pub programs_ask : (asks : Asking) (machines : List MachineData) (trees : List TypedTree) → AskAsPrograms CodeFits CodeAsks asks (map compiled trees) → code_in machines ≡ map compiled trees
    → AskAsPrograms CodeFits CodeAsks asks (code_in machines)
programs_ask asks machines trees ask coded = subst (λ (programs : List CodeData). AskAsPrograms CodeFits CodeAsks asks programs) (sym coded) ask

pub programs_suit : (cell here : CellData) (machines : List MachineData) (trees : List TypedTree) → SuitTasks CodeFits CodeAsks cell (map compiled trees) → code_in machines ≡ map compiled trees → here ≡ cell
    → SuitTasks CodeFits CodeAsks here (code_in machines)
programs_suit cell here machines trees suit coded same =
    subst (λ (programs : List CodeData). SuitTasks CodeFits CodeAsks here programs) (sym coded)
    (subst (λ (c : CellData). SuitTasks CodeFits CodeAsks c (map compiled trees)) (sym same) suit)

-- the history is one of the cell that the core was made of

pub turns_there : (asks : Asking) (cell here : CellData) (history : List Event) → IsByTurns (with_inputs asks here) here history → here ≡ cell → IsByTurns (with_inputs asks cell) cell history
turns_there asks cell here history run same = subst (λ (c : CellData). IsByTurns (with_inputs asks c) c history) same run

pub legal_there : (asks : Asking) (cell here : CellData) (history : List Event) → IsLegal (with_inputs asks here) here history → here ≡ cell → IsLegal (with_inputs asks cell) cell history
legal_there asks cell here history legal same = subst (λ (c : CellData). IsLegal (with_inputs asks c) c history) same legal

pub whole_there : (asks : Asking) (cell here : CellData) (history : List Event) → IsWhole (with_inputs asks here) here history → here ≡ cell → IsWhole (with_inputs asks cell) cell history
whole_there asks cell here history whole same = subst (λ (c : CellData). IsWhole (with_inputs asks c) c history) same whole

-- the gate has a pass for each task and one for the input script
pub passes_here : (gate : GateData) (cell : CellData) (passes : List PassData) → passes ≡ fresh_passes gate 0 (length cell.tasks + 1) → gate.cell ≡ cell
    → passes ≡ fresh_passes gate 0 (length gate.cell.tasks + 1)
passes_here gate cell passes fresh same = fresh ∙ ap (λ (c : CellData). fresh_passes gate 0 (length c.tasks + 1)) (sym same)

-- what is found of the history is found of the cell that the core was made of
pub audit_there : (asks : Asking) (cell here : CellData) (events : List Event) (fates : List Fate) (found : Result Bool AuditFault) → IsAudit (with_inputs asks here) here events fates found → here ≡ cell
    → IsAudit (with_inputs asks cell) cell events fates found
audit_there asks cell here events fates found audited same = subst (λ (c : CellData). IsAudit (with_inputs asks c) c events fates found) same audited

-- the state by the codes of the machines is the one by the codes of the trees
pub state_there : (cell here : CellData) (trees : List TypedTree) (machines : List MachineData) (events : List Event) (state : CellStateData) → here ≡ cell → code_in machines ≡ map compiled trees
    → IsStateByCodes here (code_in machines) events state → IsStateByCodes cell (map compiled trees) events state
state_there cell here trees machines events state same coded is =
    subst (λ (programs : List CodeData). IsStateByCodes cell programs events state) coded (subst (λ (c : CellData). IsStateByCodes c (code_in machines) events state) same is)
