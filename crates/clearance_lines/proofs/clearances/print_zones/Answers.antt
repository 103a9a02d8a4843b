use Rattle.std.proofs.Common.{ap, ◌∙◌}
use Rattle.rapid_model.specs.CellData.{CellData}
use Rattle.clearance_lines.proofs.PrintingZones.{zone_printed_of, zones_begin}
use Rattle.clearance_lines.proofs.clearances.print_zones.Goals as goal

pub loop-zone-init : goal.loop-zone-init
loop-zone-init g c = zones_begin c.args.core.now.cell c.args.core.now.history _ _

pub loop-zone-preserved : goal.loop-zone-preserved
loop-zone-preserved g c =
    zone_printed_of c.args.core.now.cell c.args.core.now.history c.as_slice-zone-items.result.now c.loop-zone.zone-index c.zone-item.result c.loop-zone.printed c.print_zone-printed.result _ _ _
    (c.as_slice-zone-items.ensures ∙ (c.zones.ensures ∙ ap (λ (cell : CellData). cell.zones) c.cell.ensures)) c.loop-zone-test.true c.zone-item.is c.loop-zone.invariant c.print_zone-printed.ensures
