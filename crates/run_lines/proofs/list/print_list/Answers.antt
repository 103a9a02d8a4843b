use Rattle.std.proofs.Common.{List, ap, ◌∙◌, ◌++◌}
use Rattle.std.proofs.lemmas.Result.{err_from_is_err_and}
use Rattle.rapid_model.specs.declared.task_row.TaskRow.{TaskRow}
use Rattle.cell_listing.specs.Listing.{cell_lines, code_lines, listing_of}
use Rattle.sink_lines.proofs.Gains.{writes_then, wrote_first}
use Rattle.run_lines.proofs.PrintingList.{writes_same}
use Rattle.run_lines.proofs.list.print_list.Goals as goal

pub returns-in_err-print_cell : goal.returns-in_err-print_cell
returns-in_err-print_cell g c =
    let p = err_from_is_err_and c.from_residual.result c.from_residual.ensures.1 in
    rw (p.1) (wrote_first (cell_lines c.args.cell.now) (code_lines c.args.cell.now.tasks c.args.each.now) _ c.in_err-print_cell.ensures)

pub returns : goal.returns
returns g c =
    writes_same (cell_lines c.args.cell.now ++ code_lines c.as_slice.result.now c.args.each.now) (listing_of c.args.cell.now c.args.each.now) _ _
    (ap (λ (rows : List TaskRow). cell_lines c.args.cell.now ++ code_lines rows c.args.each.now) (c.as_slice.ensures ∙ c.tasks.ensures))
    (writes_then (cell_lines c.args.cell.now) (code_lines c.as_slice.result.now c.args.each.now) _ _ _ _ c.in_ok-print_cell.ensures c.print_programs.ensures)
