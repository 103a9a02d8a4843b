use Rattle.std.proofs.Common.{arith}
use Rattle.std.proofs.lemmas.Nat.Gcd.{IsGcd-from_zero, IsGcd-from_mod}
use Rattle.zone_clearance.proofs.search.lowest_terms.greatest_divisor.Goals as goal

pub loop-two-preserved : goal.loop-two-preserved
loop-two-preserved c g h = c.loop-two.invariant g (IsGcd-from_mod _ _ g h)

pub returns : goal.returns
returns c = c.loop-two.invariant _ (IsGcd-from_zero _ _ (omega arith))
