use Rattle.zone_clearance.proofs.Comparing.{IsWayRead, over_read}
use Rattle.zone_clearance.proofs.Products.{le_from_true}
use Rattle.zone_clearance.proofs.check.claim.Claim.is_over.Goals as goal

pub returns-then-way-ge0 : goal.returns-then-way-ge0
returns-then-way-ge0 c =
    let line = c.args.line in
    let place = c.args.place in
    let claim = c.args.self in
    let read : IsWayRead line.start line.end place.top place.bottom c.way-way.result c.unsigned_abs.result = record {
      small_start = line.small_start;
      small_end = line.small_end;
      on_the_way = place.on_the_way;
      few = place.small;
      is = c.way-way.ensures;
      size_is = c.unsigned_abs.ensures.value;
      above = le_from_true _ _ c.if-way-ge0.true;
    } in
    over_read line.start line.end claim.top claim.bottom place.top place.bottom c.way-way.result c.unsigned_abs.result c.reach.result c.from.result c.div_ceil.result read claim.some c.reach.ensures c.from.ensures c.div_ceil.ensures
