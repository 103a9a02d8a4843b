use Rattle.zone_clearance.specs.Claims.{OneOver}
use Rattle.zone_clearance.proofs.Crossing.{crossing_proves, never_proves, proves_crossing}
use Rattle.std.proofs.Common.{refl}
use Rattle.zone_clearance.proofs.check.claim.Claim.is_proved_by.Goals as goal

pub returns-in-Some : goal.returns-in-Some
returns-in-Some c =
    let one = c.args.one in
    let two = c.args.two in
    let claim = c.args.self in
    let start : OneOver one two claim.top claim.bottom 0 1 = rw (c.start.ensures.top, c.start.ensures.bottom) at (c.is_one_over.ensures.0 c.if-not-is_one_over.false) in
    let end : OneOver one two claim.top claim.bottom 1 1 = rw (c.end.ensures.top, c.end.ensures.bottom) at (c.is_one_over-else-not-is_one_over.ensures.0 c.if-not-is_one_over-2.false) in (
      λ over. crossing_proves one two c.in-Some.place claim.top claim.bottom c.in-Some.ensures start end (c.is_over.ensures.0 over),
      λ prove. c.is_over.ensures.1 (proves_crossing one two c.in-Some.place claim.top claim.bottom c.in-Some.ensures prove),
    )

pub returns-in-None : goal.returns-in-None
returns-in-None c =
    let one = c.args.one in
    let two = c.args.two in
    let claim = c.args.self in
    let start : OneOver one two claim.top claim.bottom 0 1 = rw (c.start.ensures.top, c.start.ensures.bottom) at (c.is_one_over.ensures.0 c.if-not-is_one_over.false) in
    let end : OneOver one two claim.top claim.bottom 1 1 = rw (c.end.ensures.top, c.end.ensures.bottom) at (c.is_one_over-else-not-is_one_over.ensures.0 c.if-not-is_one_over-2.false) in
    (λ is. never_proves one two claim.top claim.bottom c.in-None.ensures start end, λ prove. refl)
