use Rattle.zone_clearance.proofs.LowestTerms.{quotient_positive, quotients_lowest, quotients_same}
use Rattle.zone_clearance.proofs.search.lowest_terms.in_lowest_terms.Goals as goal

pub invariant_of-result : goal.invariant_of-result
invariant_of-result c =
    let gcd = c.greatest_divisor-divisor.ensures in
    record { some = quotient_positive _ _ _ gcd c.requires; lowest = quotients_lowest _ _ _ gcd c.requires }

pub returns-clause-same : goal.returns-clause-same
returns-clause-same c = quotients_same _ _ _ c.greatest_divisor-divisor.ensures
