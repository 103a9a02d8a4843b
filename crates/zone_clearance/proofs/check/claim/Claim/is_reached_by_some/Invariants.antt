use Rattle.std.proofs.Common.{ℤ}
use Rattle.zone_clearance.specs.Claims.{Arrives}
use Rattle.zone_clearance.proofs.Passing.{OfFirst}
use Rattle.zone_clearance.proofs.check.claim.Claim.is_reached_by_some.Given as goal

abbrev pub invariant-loop-axis : goal.invariant-loop-axis
invariant-loop-axis l = record { so_far : OfFirst l.shape.inside l.p l.q l.shape.bounds l.axis (λ (start end : ℤ). ¬ Arrives l.self start end) }
