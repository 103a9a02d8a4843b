use Rattle.controller.proofs.Reports.{measured_closed}
use Rattle.controller.proofs.measure_cell.report_measured.Goals as goal

pub returns : goal.returns
returns g c =
    measured_closed c.args.core.cell c.args.core.history c.status_of_run-status.result c.print_clearances-printed.result c.report_printed.result _ _ c.report_printed.ensures.tells c.status_of_run-status.ensures
    c.print_clearances-printed.ensures c.report_printed.ensures.closed
