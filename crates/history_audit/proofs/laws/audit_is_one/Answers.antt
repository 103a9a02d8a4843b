use Rattle.history_audit.proofs.OneAudit.{one_audit}
use Rattle.history_audit.proofs.laws.audit_is_one.Goals as goal

pub returns : goal.returns
returns g c = λ cell history fates found other one may first second. one_audit g.A.Askers.asks cell history fates found other one may first second
