use Rattle.zone_clearance.proofs.Products.{scaled_fits, scaled_is, scaled_small}
use Rattle.zone_clearance.proofs.search.raised.scaled.Goals as goal

pub overflow_mul-result : goal.overflow_mul-result
overflow_mul-result c = scaled_fits c.args.thousandths c.args.by c.requires.thousandths c.requires.by

pub returns-clause-scaled : goal.returns-clause-scaled
returns-clause-scaled c = scaled_is c.args.thousandths c.args.by c.requires.thousandths c.requires.by

pub returns-clause-small : goal.returns-clause-small
returns-clause-small c =
    rw (returns-clause-scaled c) (scaled_small c.args.thousandths c.args.by c.requires.thousandths c.requires.by)
