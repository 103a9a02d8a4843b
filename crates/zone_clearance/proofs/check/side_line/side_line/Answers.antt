use Rattle.std.proofs.Common.{sym, subst, Some}
use Rattle.zone_clearance.specs.declared.side.Side.{Side}
use Rattle.zone_clearance.specs.SideLines.{IsLineOf}
use Rattle.zone_clearance.proofs.SideWays.{high_is, low_is}
use Rattle.zone_clearance.proofs.check.side_line.side_line.Goals as goal

pub returns-in_ok-named-in-Low : goal.returns-in_ok-named-in-Low
returns-in_ok-named-in-Low c =
    let shape = c.args.shape.now in
    let named = c.in_ok-named-in-Low.ensures in
    subst (λ (side : Side). IsLineOf shape.inside c.args.p.now c.args.q.now shape.bounds side (Some c.low.result)) (sym c.in-Low.is)
    (low_is shape.inside c.args.p.now c.args.q.now shape.bounds c.in-Low.axis c.in_ok-named-in-Low.named.bound _ _ c.low.result named.bound named.start named.end c.low.ensures.start c.low.ensures.end)

pub returns-in_ok-named-in-High : goal.returns-in_ok-named-in-High
returns-in_ok-named-in-High c =
    let shape = c.args.shape.now in
    let named = c.in_ok-named-in-High.ensures in
    subst (λ (side : Side). IsLineOf shape.inside c.args.p.now c.args.q.now shape.bounds side (Some c.high.result)) (sym c.in-High.is)
    (high_is shape.inside c.args.p.now c.args.q.now shape.bounds c.in-High.axis c.in_ok-named-in-High.named.bound _ _ c.high.result named.bound named.start named.end c.high.ensures.start c.high.ensures.end)
