use Rattle.std.proofs.Common.{arith}
use Rattle.std.proofs.lemmas.Int.{ints, clamps}
use Rattle.zone_clearance.proofs.search.raised.lower_end.Goals as goal

pub returns-clause-small : goal.returns-clause-small
returns-clause-small c = omega (arith, ints, clamps, c.max.ensures.value, c.max-2.ensures.value, c.min.ensures.value)
