use Rattle.std.proofs.Common.{ℕ}
use Rattle.std.specs.Int.{IsGcd}
use Rattle.zone_clearance.proofs.search.lowest_terms.greatest_divisor.Given as goal

abbrev pub invariant-loop-two : goal.invariant-loop-two
invariant-loop-two l = (g : ℕ) → IsGcd l.one l.two g → IsGcd l.fn.one l.fn.two g

abbrev pub decreases-loop-two : goal.decreases-loop-two
decreases-loop-two l = l.two
