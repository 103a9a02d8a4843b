use Rattle.clearance_lines.proofs.PathGaps.{stay_written}
use Rattle.clearance_lines.proofs.clearances.print_stay.Goals as goal

pub returns : goal.returns
returns g c =
    stay_written c.args.zone.now c.args.start.now c.measured-stay.result c.args.before c.print_gap-printed.result c.print_nearest.result _ _ _ c.measured-stay.ensures.event
    (record { least = c.measured-stay.ensures.gap; sides = c.measured-stay.ensures.sides }) c.print_gap-printed.ensures c.print_nearest.ensures
