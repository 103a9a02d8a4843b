use Rattle.std.proofs.Common.{List, ap, length, map, refl, subst, sym, ◌∙◌}
use Rattle.std.proofs.lemmas.List.{length-map}
use Rattle.rapid_model.specs.CellData.{CellData}
use Rattle.stack_code.specs.CodeData.{CodeData}
use Rattle.task_code.specs.Asking.{CodeAsks}
use Rattle.task_code.specs.Live.{CodeFits}
use Rattle.cell_meaning.specs.Asking.{with_inputs}
use Rattle.cell_meaning.specs.Histories.{IsLegal}
use Rattle.cell_crew.specs.Courses.{SuitTasks}
use Rattle.cell_crew.specs.Crew.{AskAsPrograms}
use Rattle.cell_crew.proofs.Courses.{crew_asks_what_it_may}
use Rattle.history_audit.proofs.Fronts.{legal_has_none}
use Rattle.cell_state.proofs.Replayed.{as_many, codes_of, legal_actors, state_there}
use Rattle.cell_state.proofs.reaching.state_of.Goals as goal

-- the machines have asked their first requests

pub first_wrong-requires-clause-one_each : goal.first_wrong-requires-clause-one_each
first_wrong-requires-clause-one_each g c = as_many c.ask_first.new.machines c.args.machines.now (length c.args.core.now.cell.tasks) c.ask_first.ensures.programs c.requires.crew.one_each

pub first_wrong-requires-clause-programs : goal.first_wrong-requires-clause-programs
first_wrong-requires-clause-programs g c = subst (λ (codes : List CodeData). AskAsPrograms CodeFits CodeAsks g.A.Askers.asks codes) (sym c.ask_first.ensures.programs) c.requires.programs

pub first_wrong-requires-clause-suit : goal.first_wrong-requires-clause-suit
first_wrong-requires-clause-suit g c = subst (λ (codes : List CodeData). SuitTasks CodeFits CodeAsks c.args.core.now.cell codes) (sym c.ask_first.ensures.programs) c.requires.suit

pub first_wrong-requires-clause-may : goal.first_wrong-requires-clause-may
first_wrong-requires-clause-may g c =
    crew_asks_what_it_may CodeFits CodeAsks g.A.Askers.asks c.args.core.now.cell (codes_of c.args.machines.now)
    (length-map c.args.machines.now (λ m. m.code) ∙ c.requires.crew.one_each) c.requires.programs c.requires.suit

pub first_wrong-requires-clause-actors : goal.first_wrong-requires-clause-actors
first_wrong-requires-clause-actors g c = legal_actors g.A.Askers.asks c.args.core.now.cell c.args.events.now c.requires.legal

pub unreachable-requires : goal.unreachable-requires
unreachable-requires g c = legal_has_none (with_inputs g.A.Askers.asks c.args.core.now.cell) c.args.core.now.cell c.args.events.now c.in-Some._at c.in-Some._wrong c.requires.legal c.in-Some.ensures.wrong

-- and each event was done again

pub task_states-requires-clause-one_each : goal.task_states-requires-clause-one_each
task_states-requires-clause-one_each g c =
    as_many c.first_wrong.new.machines c.args.machines.now (length c.first_wrong.new.core.cell.tasks) (c.in_default.ensures.programs ∙ c.ask_first.ensures.programs)
    (c.requires.crew.one_each ∙ ap (λ (cell : CellData). length cell.tasks) (sym c.in_default.ensures.cell))

pub task_states-requires-clause-programs : goal.task_states-requires-clause-programs
task_states-requires-clause-programs g c =
    subst (λ (codes : List CodeData). AskAsPrograms CodeFits CodeAsks g.A.Askers.asks codes) (sym (c.in_default.ensures.programs ∙ c.ask_first.ensures.programs)) c.requires.programs

pub task_states-requires-clause-suit : goal.task_states-requires-clause-suit
task_states-requires-clause-suit g c =
    subst (λ (codes : List CodeData). SuitTasks CodeFits CodeAsks c.first_wrong.new.core.cell codes) (sym (c.in_default.ensures.programs ∙ c.ask_first.ensures.programs))
    (subst (λ (cell : CellData). SuitTasks CodeFits CodeAsks cell (codes_of c.args.machines.now)) (sym c.in_default.ensures.cell) c.requires.suit)

pub task_states-requires-clause-legal : goal.task_states-requires-clause-legal
task_states-requires-clause-legal g c =
    subst (λ (cell : CellData). IsLegal (with_inputs g.A.Askers.asks cell) cell c.first_wrong.new.core.history) (sym c.in_default.ensures.cell) (c.in_default.ensures.legal refl)

pub task_states-requires-clause-under_way : goal.task_states-requires-clause-under_way
task_states-requires-clause-under_way g c = c.in_default.ensures.under_way refl

pub returns-clause-state : goal.returns-clause-state
returns-clause-state g c =
    state_there c.args.core.now.cell c.first_wrong.new.core.cell c.args.machines.now c.first_wrong.new.machines c.args.events.now c.first_wrong.new.core.history c.in_ok-tasks.tasks.items
    (map (λ elements. elements.items) c.in_ok-pers.pers.items) c.in_default.ensures.cell (c.in_default.ensures.programs ∙ c.ask_first.ensures.programs) (c.in_default.ensures.history refl)
    c.in_ok-tasks.ensures.one_each c.in_ok-tasks.ensures.reached c.in_ok-pers.ensures
