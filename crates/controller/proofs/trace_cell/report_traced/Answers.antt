use Rattle.std.proofs.Common.{List, ap, length, subst, sym, ◌∙◌}
use Rattle.std.specs.List.{AllByRecursion}
use Rattle.stack_code.specs.CodeData.{CodeData}
use Rattle.task_code.specs.Asking.{CodeAsks}
use Rattle.task_code.specs.Live.{CodeFits}
use Rattle.task_machine.specs.MachineData.{MachineData}
use Rattle.cell_crew.specs.Courses.{SuitTasks}
use Rattle.cell_crew.specs.Crew.{AskAsPrograms}
use Rattle.cell_state.proofs.Replayed.{as_many}
use Rattle.state_lines.specs.Sources.{view_modules}
use Rattle.cell_runs.proofs.Compiling.{code_in, is_new}
use Rattle.controller.proofs.Traced.{traced_closed}
use Rattle.controller.proofs.trace_cell.report_traced.Goals as goal

pub ask_first-requires : goal.ask_first-requires
ask_first-requires g c = subst (λ (ms : List MachineData). AllByRecursion is_new ms) (sym c.as_mut_slice-crew.ensures.value) c.requires.fresh

pub print_trace-printed-requires-clause-one_each : goal.print_trace-printed-requires-clause-one_each
print_trace-printed-requires-clause-one_each g c =
    as_many c.ask_first.new.machines c.args.machines.items (length c.args.core.cell.tasks) (c.ask_first.ensures.programs ∙ ap code_in c.as_mut_slice-crew.ensures.value) c.requires.one_each

pub print_trace-printed-requires-clause-programs : goal.print_trace-printed-requires-clause-programs
print_trace-printed-requires-clause-programs g c =
    subst (λ (codes : List CodeData). AskAsPrograms CodeFits CodeAsks g.A.Askers.asks codes) (sym (c.ask_first.ensures.programs ∙ ap code_in c.as_mut_slice-crew.ensures.value)) c.requires.programs

pub print_trace-printed-requires-clause-suit : goal.print_trace-printed-requires-clause-suit
print_trace-printed-requires-clause-suit g c =
    subst (λ (codes : List CodeData). SuitTasks CodeFits CodeAsks c.args.core.cell codes) (sym (c.ask_first.ensures.programs ∙ ap code_in c.as_mut_slice-crew.ensures.value)) c.requires.suit

pub returns : goal.returns
returns g c = λ trees coded checked.
    traced_closed c.args.core.cell trees (view_modules c.args.modules.now) c.args.core.history c.status_of_run-status.result c.print_trace-printed.result c.report_printed.result _ _ c.report_printed.ensures.tells
    c.status_of_run-status.ensures (c.print_trace-printed.ensures trees (c.ask_first.ensures.programs ∙ ap code_in c.as_mut_slice-crew.ensures.value ∙ coded) checked) c.report_printed.ensures.closed
