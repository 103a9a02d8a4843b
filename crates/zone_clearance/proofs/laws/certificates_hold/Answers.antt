use Rattle.zone_clearance.proofs.Certified.{proves_far}
use Rattle.zone_clearance.proofs.laws.certificates_hold.Goals as goal

pub returns : goal.returns
returns c = λ p q shape gap proves k m some way. proves_far p q shape gap proves k m some way
