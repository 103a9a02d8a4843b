use Rattle.std.proofs.lemmas.Result.{err_from_is_err_and}
use Rattle.cell_listing.specs.Listing.{numbered}
use Rattle.state_text.specs.StateLines.{datum_line, element_of}
use Rattle.run_lines.proofs.PrintingList.{printing_begins, row_failed, row_printed, rows_printed}
use Rattle.state_lines.proofs.state.print_shown.Goals as goal

pub loop-index-init : goal.loop-index-init
loop-index-init g c = printing_begins (numbered (λ index. datum_line c.args.task.now c.args.row.now.name (element_of c.args.row.now.len index)) 0 c.args.data.now) _

pub loop-index-preserved : goal.loop-index-preserved
loop-index-preserved g c =
    row_printed (λ index. datum_line c.args.task.now c.args.row.now.name (element_of c.args.row.now.len index)) c.args.data.now c.loop-index.index c.index-data-index.result _ _ _ _
    c.loop-index-test.true c.index-data-index.is c.in_ok-print_datum.ensures c.loop-index.invariant

pub returns-in_err-print_datum : goal.returns-in_err-print_datum
returns-in_err-print_datum g c =
    let p = err_from_is_err_and c.from_residual.result c.from_residual.ensures.1 in
    rw (p.1) (row_failed (λ index. datum_line c.args.task.now c.args.row.now.name (element_of c.args.row.now.len index)) c.args.data.now c.loop-index.index c.index-data-index.result _ _ _ _
    c.loop-index-test.true c.index-data-index.is c.in_err-print_datum.ensures c.loop-index.invariant)

pub returns : goal.returns
returns g c = rows_printed (λ index. datum_line c.args.task.now c.args.row.now.name (element_of c.args.row.now.len index)) c.args.data.now c.loop-index.index _ _ c.loop-index-test.false c.loop-index.invariant
