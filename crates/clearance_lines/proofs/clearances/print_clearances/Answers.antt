use Rattle.std.proofs.lemmas.Result.{err_from_is_err_and}
use Rattle.clearance_lines.proofs.PrintingZones.{measured_failed, measured_written}
use Rattle.clearance_lines.proofs.clearances.print_clearances.Goals as goal

pub returns-in_err-print_zones : goal.returns-in_err-print_zones
returns-in_err-print_zones g c =
    let p = err_from_is_err_and c.from_residual.result c.from_residual.ensures.1 in
    rw (p.1) (measured_failed c.args.core.now.cell c.args.core.now.history _ _ _ c.in_err-print_zones.ensures)

pub returns : goal.returns
returns g c = measured_written c.args.core.now.cell c.args.core.now.history _ c.print_fates.result _ _ _ c.in_ok-print_zones.ensures c.print_fates.ensures
