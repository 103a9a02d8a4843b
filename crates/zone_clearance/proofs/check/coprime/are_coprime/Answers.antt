use Rattle.std.proofs.Common.{arith, eqb-true, eq-eqb}
use Rattle.std.proofs.lemmas.Nat.Gcd.{IsGcd-from_zero, IsGcd-from_mod, same_from_IsGcd}
use Rattle.zone_clearance.proofs.check.coprime.are_coprime.Goals as goal

pub loop-two-preserved : goal.loop-two-preserved
loop-two-preserved c g h = c.loop-two.invariant g (IsGcd-from_mod _ _ g h)

pub returns : goal.returns
returns c =
    let gcd = c.loop-two.invariant _ (IsGcd-from_zero _ _ (omega arith)) in
    (λ one. rw (eqb-true _ _ one) at gcd, λ coprime. eq-eqb _ _ (same_from_IsGcd _ _ _ _ gcd coprime))
