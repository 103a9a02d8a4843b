use Rattle.std.proofs.Common.{ap, refl, sym, ◌∙◌}
use Rattle.std.proofs.lemmas.Result.{err_from_is_err_and}
use Rattle.cell_state.specs.States.{CellStateData}
use Rattle.state_text.specs.StateLines.{state_lines, tasks_lines, value_lines}
use Rattle.state_lines.specs.Sources.{view_modules}
use Rattle.sink_lines.proofs.Gains.{writes_then, wrote_first}
use Rattle.run_lines.proofs.PrintingList.{part_same, writes_same}
use Rattle.state_lines.proofs.PrintingState.{elements_in, state_seen, trees_in}
use Rattle.state_lines.proofs.state.print_state.Goals as goal

pub returns-in_err-print_values : goal.returns-in_err-print_values
returns-in_err-print_values g c =
    let p = err_from_is_err_and c.from_residual.result c.from_residual.ensures.1 in
    let names = c.names_of-names.result in
    rw (p.1) (part_same _ _ _
    (state_seen c.args.cell.now c.args.trees.now (view_modules c.args.modules.now) c.args.state.now names.tasks.now names.pers.now (elements_in c.as_slice.result.now) c.args.state.now.tasks
    c.names_of-names.ensures.tasks c.names_of-names.ensures.pers (ap elements_in c.as_slice.ensures.value ∙ ap (λ (s : CellStateData). s.pers) c.state.view_is) refl)
    (wrote_first (value_lines names.tasks.now 0 names.pers.now (elements_in c.as_slice.result.now)) (tasks_lines names.tasks.now (trees_in c.args.trees.now) (view_modules c.args.modules.now) c.args.state.now.tasks) _
    c.in_err-print_values.ensures))

pub returns : goal.returns
returns g c =
    let names = c.names_of-names.result in
    writes_same _ _ _ _
    (state_seen c.args.cell.now c.args.trees.now (view_modules c.args.modules.now) c.args.state.now names.tasks.now names.pers.now (elements_in c.as_slice.result.now) c.as_slice-2.result.now
    c.names_of-names.ensures.tasks c.names_of-names.ensures.pers (ap elements_in c.as_slice.ensures.value ∙ ap (λ (s : CellStateData). s.pers) c.state.view_is)
    (c.as_slice-2.ensures.value ∙ ap (λ (s : CellStateData). s.tasks) c.state.view_is))
    (writes_then (value_lines names.tasks.now 0 names.pers.now (elements_in c.as_slice.result.now)) (tasks_lines names.tasks.now (trees_in c.args.trees.now) (view_modules c.args.modules.now) c.as_slice-2.result.now) _ _ _ _
    c.in_ok-print_values.ensures c.print_tasks.ensures)
