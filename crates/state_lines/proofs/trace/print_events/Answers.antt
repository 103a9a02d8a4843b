use Rattle.std.proofs.Common.{◌≤◌, List, ap, arith, length, refl, subst, sym, ◌∙◌}
use Rattle.std.proofs.lemmas.Result.{err_from_is_err_and}
use Rattle.rapid_model.specs.CellData.{CellData}
use Rattle.stack_code.specs.CodeData.{CodeData}
use Rattle.task_code.specs.Asking.{CodeAsks}
use Rattle.task_code.specs.Live.{CodeFits}
use Rattle.cell_crew.specs.Courses.{SuitTasks}
use Rattle.cell_crew.specs.Crew.{AskAsPrograms}
use Rattle.cell_state.proofs.Replayed.{as_many}
use Rattle.state_text.specs.TraceLines.{trace_lines}
use Rattle.state_lines.specs.Sources.{view_modules}
use Rattle.run_lines.proofs.PrintingList.{printing_begins, printing_ends}
use Rattle.state_lines.proofs.PrintingTrace.{trace_fails, trace_more, trace_past}
use Rattle.state_lines.proofs.trace.print_events.Goals as goal

pub loop-k-init : goal.loop-k-init
loop-k-init g c = record {
  programs = refl;
  ways = c.requires.under_way;
  printing = λ trees coded checked. printing_begins (trace_lines c.args.core.now.cell.tasks trees (view_modules c.args.modules.now) c.args.core.now.history) _;
}

pub trace_event-traced-requires-clause-one_each : goal.trace_event-traced-requires-clause-one_each
trace_event-traced-requires-clause-one_each g c = as_many c.loop-k.machines c.args.machines.now (length c.args.core.now.cell.tasks) c.loop-k.invariant.programs c.requires.one_each

pub trace_event-traced-requires-clause-programs : goal.trace_event-traced-requires-clause-programs
trace_event-traced-requires-clause-programs g c = subst (λ (codes : List CodeData). AskAsPrograms CodeFits CodeAsks g.A.Askers.asks codes) (sym c.loop-k.invariant.programs) c.requires.programs

pub trace_event-traced-requires-clause-suit : goal.trace_event-traced-requires-clause-suit
trace_event-traced-requires-clause-suit g c = subst (λ (codes : List CodeData). SuitTasks CodeFits CodeAsks c.args.core.now.cell codes) (sym c.loop-k.invariant.programs) c.requires.suit

pub trace_event-traced-requires-clause-under_way : goal.trace_event-traced-requires-clause-under_way
trace_event-traced-requires-clause-under_way g c = c.loop-k.invariant.ways

pub loop-k-preserved : goal.loop-k-preserved
loop-k-preserved g c =
    trace_more g.A.Askers.asks c.args.core.now.cell c.args.machines.now (view_modules c.args.modules.now) c.args.core.now.history c.code_places_are_tree_places.ensures c.requires.one_each c.requires.programs
    c.requires.suit c.requires.legal c.loop-k.machines c.trace_event-traced.new.machines c.loop-k.k c.trace_event-traced.result.event c.trace_event-traced.result.place c.names_of-names.result.tasks.now _ _ _
    c.trace_event-traced.ensures.event c.loop-k.invariant c.trace_event-traced.ensures.programs c.trace_event-traced.ensures.under_way c.trace_event-traced.ensures.place
    (c.names_of-names.ensures.tasks ∙ ap (λ (cell : CellData). cell.tasks) c.cell.ensures) c.in_ok-print_traced.ensures

pub returns-in_err-print_traced : goal.returns-in_err-print_traced
returns-in_err-print_traced g c = λ trees coded checked.
    let p = err_from_is_err_and c.from_residual.result c.from_residual.ensures.1 in
    rw (p.1) (trace_fails g.A.Askers.asks c.args.core.now.cell c.args.machines.now (view_modules c.args.modules.now) c.args.core.now.history c.code_places_are_tree_places.ensures c.requires.one_each
    c.requires.programs c.requires.suit c.requires.legal c.loop-k.machines c.loop-k.k c.trace_event-traced.result.event c.trace_event-traced.result.place c.names_of-names.result.tasks.now _ _ _
    c.trace_event-traced.ensures.event c.loop-k.invariant c.trace_event-traced.ensures.place (c.names_of-names.ensures.tasks ∙ ap (λ (cell : CellData). cell.tasks) c.cell.ensures)
    c.in_err-print_traced.ensures trees coded checked)

pub returns : goal.returns
returns g c = λ trees coded checked.
    let past : length c.args.core.now.history ≤ c.loop-k.k = omega arith in
    printing_ends (trace_lines c.args.core.now.cell.tasks trees (view_modules c.args.modules.now) c.args.core.now.history) _ _
    (trace_past c.args.core.now.cell.tasks trees (view_modules c.args.modules.now) c.args.core.now.history c.loop-k.k past) (c.loop-k.invariant.printing trees coded checked)
