use Rattle.std.proofs.Common.{List, ap, length, map, subst, sym, ◌∙◌}
use Rattle.std.proofs.lemmas.List.{length-map}
use Rattle.cell_core.specs.CoreData.{CoreData}
use Rattle.rapid_model.specs.CellData.{CellData}
use Rattle.typed_trees.specs.Views.{view_tree}
use Rattle.task_code.specs.Asking.{CodeAsks}
use Rattle.task_code.specs.Live.{CodeFits}
use Rattle.task_machine.specs.MachineData.{MachineData}
use Rattle.cell_meaning.specs.Asking.{with_inputs}
use Rattle.cell_meaning.specs.Histories.{IsLegal}
use Rattle.cell_crew.specs.Courses.{SuitTasks}
use Rattle.cell_crew.specs.Crew.{AskAsPrograms, IsCrew}
use Rattle.cell_runs.proofs.Compiling.{code_in, is_new}
use Rattle.cell_runs.proofs.Running.{crew_is, programs_ask, programs_suit, state_there}
use Rattle.cell_runs.proofs.state.state_reached.Goals as goal

pub state_of-requires-clause-no_events : goal.state_of-requires-clause-no_events
state_of-requires-clause-no_events g c = ap (λ (x : CoreData). x.history) c.in-Ok.ensures.ok

pub state_of-requires-clause-crew : goal.state_of-requires-clause-crew
state_of-requires-clause-crew g c =
    subst (λ (ms : List MachineData). IsCrew is_new ms c.in-Ok.core.cell) (sym c.as_mut_slice.ensures.value)
    (crew_is c.args.cell c.in-Ok.core.cell c.in_ok-machines.machines.items c.args.trees.now c.in_ok-machines.ensures.programs c.in_ok-machines.ensures.fresh c.requires.one_each
    (ap (λ (x : CoreData). x.cell) c.in-Ok.ensures.ok))

pub state_of-requires-clause-programs : goal.state_of-requires-clause-programs
state_of-requires-clause-programs g c =
    subst (λ (ms : List MachineData). AskAsPrograms CodeFits CodeAsks g.A.Askers.asks (code_in ms)) (sym c.as_mut_slice.ensures.value)
    (programs_ask g.A.Askers.asks c.in_ok-machines.machines.items (map view_tree c.args.trees.now) c.requires.programs c.in_ok-machines.ensures.programs)

pub state_of-requires-clause-suit : goal.state_of-requires-clause-suit
state_of-requires-clause-suit g c =
    subst (λ (ms : List MachineData). SuitTasks CodeFits CodeAsks c.in-Ok.core.cell (code_in ms)) (sym c.as_mut_slice.ensures.value)
    (programs_suit c.args.cell c.in-Ok.core.cell c.in_ok-machines.machines.items (map view_tree c.args.trees.now) c.requires.suit c.in_ok-machines.ensures.programs
    (ap (λ (x : CoreData). x.cell) c.in-Ok.ensures.ok))

pub state_of-requires-clause-legal : goal.state_of-requires-clause-legal
state_of-requires-clause-legal g c =
    subst (λ (cell : CellData). IsLegal (with_inputs g.A.Askers.asks cell) cell c.args.events.now) (sym (ap (λ (x : CoreData). x.cell) c.in-Ok.ensures.ok)) c.requires.legal

pub returns-in-Ok-clause-state : goal.returns-in-Ok-clause-state
returns-in-Ok-clause-state g c =
    c.code_states_are_tree_states.ensures c.args.cell (map view_tree c.args.trees.now) c.args.events.now c.in_ok-state-in-Ok.state (length-map c.args.trees.now view_tree ∙ c.requires.one_each) c.requires.checked
    c.requires.programs c.requires.suit c.requires.legal
    (state_there c.args.cell c.in-Ok.core.cell (map view_tree c.args.trees.now) c.as_mut_slice.result.now c.args.events.now c.in_ok-state-in-Ok.state (ap (λ (x : CoreData). x.cell) c.in-Ok.ensures.ok)
    (ap code_in c.as_mut_slice.ensures.value ∙ c.in_ok-machines.ensures.programs) c.in_ok-state-in-Ok.ensures.state)
