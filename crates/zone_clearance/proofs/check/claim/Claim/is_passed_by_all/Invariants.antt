use Rattle.zone_clearance.specs.Claims.{Passes}
use Rattle.zone_clearance.proofs.Passing.{OfFirst}
use Rattle.zone_clearance.proofs.check.claim.Claim.is_passed_by_all.Given as goal

abbrev pub invariant-loop-axis : goal.invariant-loop-axis
invariant-loop-axis l = record { so_far : OfFirst l.shape.inside l.p l.q l.shape.bounds l.axis (Passes l.shape.inside l.self) }
