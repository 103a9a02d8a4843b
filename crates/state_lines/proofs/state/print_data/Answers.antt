use Rattle.std.proofs.Common.{map}
use Rattle.std.proofs.lemmas.Result.{err_from_is_err_and}
use Rattle.typed_trees.specs.Views.{view_slot}
use Rattle.state_text.specs.StateLines.{datum_lines}
use Rattle.run_lines.proofs.PrintingList.{printing_begins}
use Rattle.state_lines.proofs.PrintingState.{data_failed, data_more, data_printed}
use Rattle.state_lines.proofs.state.print_data.Goals as goal

pub loop-row-init : goal.loop-row-init
loop-row-init g c = printing_begins (datum_lines c.args.task.now (map view_slot c.args.rows.now) c.args.data.now) _

pub loop-row-preserved : goal.loop-row-preserved
loop-row-preserved g c =
    data_more c.args.task.now c.args.rows.now c.loop-row.rest.now c.first_of.result.now c.after_first-rest.result.now c.loop-row.row-index c.row-item.result c.width-own.result _ _ _ _ c.loop-row-test.true c.row-item.is
    c.width-own.ensures c.first_of.ensures c.after_first-rest.ensures c.in_ok-print_row.ensures c.loop-row.invariant

pub returns-in_err-print_row : goal.returns-in_err-print_row
returns-in_err-print_row g c =
    let p = err_from_is_err_and c.from_residual.result c.from_residual.ensures.1 in
    rw (p.1) (data_failed c.args.task.now c.args.rows.now c.loop-row.rest.now c.first_of.result.now c.loop-row.row-index c.row-item.result c.width-own.result _ _ _ _ c.loop-row-test.true c.row-item.is
    c.width-own.ensures c.first_of.ensures c.in_err-print_row.ensures c.loop-row.invariant)

pub returns : goal.returns
returns g c = data_printed c.args.task.now c.args.rows.now c.loop-row.rest.now c.loop-row.row-index _ _ c.loop-row-test.false c.loop-row.invariant
