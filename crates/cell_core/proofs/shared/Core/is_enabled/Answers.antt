use Rattle.std.proofs.Common.{◌∙◌}
use Rattle.rapid_model.specs.Own.{part_of}
use Rattle.cell_core.proofs.Opening.{rises, input_enabled}
use Rattle.cell_core.proofs.shared.Core.is_enabled.Goals as goal

pub can_rise-requires : goal.can_rise-requires
can_rise-requires c =
    let core = c.args.self.now in
    rises core.cell c.args.actor (part_of c.args.actor core.history) c.args.request.now c.in-Rise.is c.requires

pub returns-in-Input : goal.returns-in-Input
returns-in-Input c =
    let core = c.args.self.now in
    c.can_feed.ensures ∙ input_enabled core.cell core.history c.args.actor c.args.request.now _ c.in-Input.is c.requires
