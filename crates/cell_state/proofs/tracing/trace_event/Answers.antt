use Rattle.std.proofs.Common.{◌≤◌, ◌∙◌, length, arith}
use Rattle.std.proofs.lemmas.List.{length-map}
use Rattle.std.proofs.lemmas.Option.{slice_get-get_or}
use Rattle.task_code.specs.Asking.{CodeAsks}
use Rattle.task_code.specs.Live.{CodeFits}
use Rattle.cell_meaning.specs.Asking.{with_inputs}
use Rattle.cell_meaning.specs.Premises.{AsksWhatItMay}
use Rattle.cell_crew.proofs.Courses.{crew_asks_what_it_may}
use Rattle.cell_crew.proofs.Crews.{map_set}
use Rattle.cell_state.proofs.Replayed.{code_asked, code_suits, codes_of}
use Rattle.cell_state.proofs.EventPlaces.{asked_nowhere, asked_there, its_answer, its_due, ways_on, ways_past}
use Rattle.cell_state.proofs.tracing.trace_event.Given as given
use Rattle.cell_state.proofs.tracing.trace_event.Goals.{After-index-machines-actor}
use Rattle.cell_state.proofs.tracing.trace_event.Goals as goal

-- the tasks ask what they may
asks_well : (g : given.Over) (c : After-index-machines-actor g) → AsksWhatItMay (with_inputs g.A.Askers.asks c.args.core.now.cell) c.args.core.now.cell
asks_well g c =
    crew_asks_what_it_may CodeFits CodeAsks g.A.Askers.asks c.args.core.now.cell (codes_of c.args.machines.now) (length-map c.args.machines.now (λ m. m.code) ∙ c.requires.one_each) c.requires.programs c.requires.suit

-- an event of a task

pub pass_event-place-requires-clause-due : goal.pass_event-place-requires-clause-due
pass_event-place-requires-clause-due g c =
    let at = slice_get-get_or c.args.machines.now c.event-event.result.actor c.index-machines-actor.result (omega arith) in
    its_due g.A.Askers.asks c.args.core.now.cell _ c.args.core.now.history c.args.k c.event-event.result c.event-event.ensures (omega arith)
    (code_asked g.A.Askers.asks c.args.machines.now c.event-event.result.actor _ c.requires.programs at) (code_suits c.args.core.now.cell c.args.machines.now c.event-event.result.actor _ c.requires.suit at)
    (asks_well g (goal.at.pass_event-place-requires-clause-due g c).After-index-machines-actor) c.requires.legal (c.requires.under_way.each c.event-event.result.actor _ at)

pub pass_event-place-requires-clause-fitting : goal.pass_event-place-requires-clause-fitting
pass_event-place-requires-clause-fitting g c =
    let at = slice_get-get_or c.args.machines.now c.event-event.result.actor c.index-machines-actor.result (omega arith) in
    its_answer g.A.Askers.asks c.args.core.now.cell _ c.args.core.now.history c.args.k c.event-event.result c.event-event.ensures (omega arith)
    (code_asked g.A.Askers.asks c.args.machines.now c.event-event.result.actor _ c.requires.programs at) (code_suits c.args.core.now.cell c.args.machines.now c.event-event.result.actor _ c.requires.suit at)
    (asks_well g (goal.at.pass_event-place-requires-clause-fitting g c).After-index-machines-actor) c.requires.legal (c.requires.under_way.each c.event-event.result.actor _ at)

pub returns-then-actor-task_count-clause-programs : goal.returns-then-actor-task_count-clause-programs
returns-then-actor-task_count-clause-programs g c =
    let at = slice_get-get_or c.args.machines.now c.event-event.result.actor c.index-machines-actor.result (omega arith) in
    map_set (λ m. m.code) c.args.machines.now c.event-event.result.actor _ _ at c.pass_event-place.ensures.code

pub returns-then-actor-task_count-clause-place : goal.returns-then-actor-task_count-clause-place
returns-then-actor-task_count-clause-place g c =
    let at = slice_get-get_or c.args.machines.now c.event-event.result.actor c.index-machines-actor.result (omega arith) in
    asked_there g.A.Askers.asks c.args.core.now.cell _ c.args.core.now.history c.args.k c.event-event.result c.event-event.ensures (omega arith)
    (code_asked g.A.Askers.asks c.args.machines.now c.event-event.result.actor _ c.requires.programs at) (code_suits c.args.core.now.cell c.args.machines.now c.event-event.result.actor _ c.requires.suit at)
    (asks_well g (goal.at.returns-then-actor-task_count-clause-place g c).After-index-machines-actor) c.requires.legal (c.requires.under_way.each c.event-event.result.actor _ at)
    c.args.machines.now c.pass_event-place.result at c.pass_event-place.ensures.place

pub returns-then-actor-task_count-clause-under_way : goal.returns-then-actor-task_count-clause-under_way
returns-then-actor-task_count-clause-under_way g c =
    let at = slice_get-get_or c.args.machines.now c.event-event.result.actor c.index-machines-actor.result (omega arith) in
    ways_on g.A.Askers.asks c.args.core.now.cell _ c.args.core.now.history c.args.k c.event-event.result c.event-event.ensures (omega arith)
    (code_asked g.A.Askers.asks c.args.machines.now c.event-event.result.actor _ c.requires.programs at) (code_suits c.args.core.now.cell c.args.machines.now c.event-event.result.actor _ c.requires.suit at)
    (asks_well g (goal.at.returns-then-actor-task_count-clause-under_way g c).After-index-machines-actor) c.requires.legal (c.requires.under_way.each c.event-event.result.actor _ at)
    c.args.machines.now c.pass_event-place.new.machine c.requires.under_way c.pass_event-place.ensures.under_way

-- an event of the input script

pub returns-else-actor-task_count-clause-place : goal.returns-else-actor-task_count-clause-place
returns-else-actor-task_count-clause-place g c =
    let none : length c.args.machines.now ≤ c.event-event.result.actor = omega (arith, c.requires.one_each, c.task_count.ensures.same, c.if-actor-task_count.false) in
    asked_nowhere g.A.Askers.asks c.args.core.now.cell c.args.machines.now c.args.core.now.history c.args.k c.event-event.result c.event-event.ensures none

pub returns-else-actor-task_count-clause-under_way : goal.returns-else-actor-task_count-clause-under_way
returns-else-actor-task_count-clause-under_way g c =
    let none : length c.args.machines.now ≤ c.event-event.result.actor = omega (arith, c.requires.one_each, c.task_count.ensures.same, c.if-actor-task_count.false) in
    ways_past g.A.Askers.asks c.args.core.now.cell c.args.machines.now c.args.core.now.history c.args.k c.event-event.result c.event-event.ensures none c.requires.legal c.requires.under_way
