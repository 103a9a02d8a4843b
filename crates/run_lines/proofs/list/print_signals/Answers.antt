use Rattle.std.proofs.lemmas.Result.{err_from_is_err_and}
use Rattle.cell_listing.specs.Listing.{signal_line, numbered}
use Rattle.run_lines.proofs.PrintingList.{printing_begins, row_failed, row_printed, rows_printed}
use Rattle.run_lines.proofs.list.print_signals.Goals as goal

pub loop-k-init : goal.loop-k-init
loop-k-init g c = printing_begins (numbered signal_line 0 c.args.rows.now) _

pub loop-k-preserved : goal.loop-k-preserved
loop-k-preserved g c = row_printed signal_line c.args.rows.now c.loop-k.k c.index-rows-k.result _ _ _ _ c.loop-k-test.true c.index-rows-k.is c.in_ok-print_signal.ensures c.loop-k.invariant

pub returns-in_err-print_signal : goal.returns-in_err-print_signal
returns-in_err-print_signal g c =
    let p = err_from_is_err_and c.from_residual.result c.from_residual.ensures.1 in
    rw (p.1) (row_failed signal_line c.args.rows.now c.loop-k.k c.index-rows-k.result _ _ _ _ c.loop-k-test.true c.index-rows-k.is c.in_err-print_signal.ensures c.loop-k.invariant)

pub returns : goal.returns
returns g c = rows_printed signal_line c.args.rows.now c.loop-k.k _ _ c.loop-k-test.false c.loop-k.invariant
