use Rattle.std.proofs.Common.{◌≤◌, List, ap, length, map, subst, sym, ◌∙◌}
use Rattle.std.specs.Prelude.{All}
use Rattle.cell_core.specs.CoreData.{CoreData}
use Rattle.rapid_model.specs.CellData.{CellData}
use Rattle.rapid_model.specs.declared.event.Event.{Event}
use Rattle.typed_trees.specs.Views.{view_tree}
use Rattle.task_code.specs.Asking.{CodeAsks}
use Rattle.task_code.specs.Live.{CodeFits}
use Rattle.task_machine.specs.MachineData.{MachineData}
use Rattle.cell_crew.specs.Courses.{SuitTasks}
use Rattle.cell_crew.specs.Crew.{AskAsPrograms, IsCrew}
use Rattle.cell_runs.proofs.Running.{audit_there, crew_is, programs_ask, programs_suit}
use Rattle.cell_runs.proofs.Compiling.{code_in, is_new}
use Rattle.cell_runs.proofs.audit.audit_history.Goals as goal

pub audit-found-requires-clause-no_events : goal.audit-found-requires-clause-no_events
audit-found-requires-clause-no_events g c = ap (λ (x : CoreData). x.history) c.in-Ok.ensures.ok

pub audit-found-requires-clause-crew : goal.audit-found-requires-clause-crew
audit-found-requires-clause-crew g c =
    subst (λ (ms : List MachineData). IsCrew is_new ms c.in-Ok.core.cell) (sym c.as_mut_slice.ensures.value)
    (crew_is c.args.cell c.in-Ok.core.cell c.in_ok-machines.machines.items c.args.trees.now c.in_ok-machines.ensures.programs c.in_ok-machines.ensures.fresh c.requires.one_each
    (ap (λ (x : CoreData). x.cell) c.in-Ok.ensures.ok))

pub audit-found-requires-clause-programs : goal.audit-found-requires-clause-programs
audit-found-requires-clause-programs g c =
    subst (λ (ms : List MachineData). AskAsPrograms CodeFits CodeAsks g.A.Askers.asks (code_in ms)) (sym c.as_mut_slice.ensures.value)
    (programs_ask g.A.Askers.asks c.in_ok-machines.machines.items (map view_tree c.args.trees.now) c.requires.programs c.in_ok-machines.ensures.programs)

pub audit-found-requires-clause-suit : goal.audit-found-requires-clause-suit
audit-found-requires-clause-suit g c =
    subst (λ (ms : List MachineData). SuitTasks CodeFits CodeAsks c.in-Ok.core.cell (code_in ms)) (sym c.as_mut_slice.ensures.value)
    (programs_suit c.args.cell c.in-Ok.core.cell c.in_ok-machines.machines.items (map view_tree c.args.trees.now) c.requires.suit c.in_ok-machines.ensures.programs
    (ap (λ (x : CoreData). x.cell) c.in-Ok.ensures.ok))

pub audit-found-requires-clause-actors : goal.audit-found-requires-clause-actors
audit-found-requires-clause-actors g c =
    subst (λ (cell : CellData). All (λ (e : Event). e.actor ≤ length cell.tasks) c.args.events.now) (sym (ap (λ (x : CoreData). x.cell) c.in-Ok.ensures.ok)) c.requires.actors

pub audit-found-requires-clause-few : goal.audit-found-requires-clause-few
audit-found-requires-clause-few g c =
    subst (λ (cell : CellData). length c.args.fates.now ≤ length cell.tasks) (sym (ap (λ (x : CoreData). x.cell) c.in-Ok.ensures.ok)) c.requires.few

pub returns-in-Ok-clause-cell : goal.returns-in-Ok-clause-cell
returns-in-Ok-clause-cell g c = c.audit-found.ensures.cell ∙ ap (λ (x : CoreData). x.cell) c.in-Ok.ensures.ok

pub returns-in-Ok-clause-found : goal.returns-in-Ok-clause-found
returns-in-Ok-clause-found g c =
    audit_there g.A.Askers.asks c.args.cell c.in-Ok.core.cell c.args.events.now c.args.fates.now c.audit-found.result c.audit-found.ensures.audited (ap (λ (x : CoreData). x.cell) c.in-Ok.ensures.ok)
