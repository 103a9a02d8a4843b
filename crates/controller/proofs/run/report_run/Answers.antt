use Rattle.controller.proofs.Reports.{run_closed}
use Rattle.controller.proofs.run.report_run.Goals as goal

pub returns : goal.returns
returns g c =
    run_closed c.args.shown c.args.core.cell c.args.core.history c.status_of_run-status.result c.print_run-printed.result c.report_printed.result _ _ c.report_printed.ensures.tells c.status_of_run-status.ensures
    c.print_run-printed.ensures c.report_printed.ensures.closed
