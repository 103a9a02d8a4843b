use Rattle.zone_clearance.proofs.StayingUnder.{higher_end}
use Rattle.zone_clearance.proofs.search.best_pair.stays_under.Goals as goal

pub returns : goal.returns
returns c =
    let same = higher_end c.args.line c.args.level _ c.max.ensures.value in
    (λ test. same.0 (c.is_at_least.ensures.0 test), λ under. c.is_at_least.ensures.1 (same.1 under))
