use Rattle.history_audit.proofs.OneAudit.{front_passes, whole_passes}
use Rattle.history_audit.proofs.laws.legal_histories_pass.Goals as goal

pub returns-clause-whole : goal.returns-clause-whole
returns-clause-whole g c = λ cell history fates found legal whole right is. whole_passes g.A.Askers.asks cell history fates found legal whole right is

pub returns-clause-front : goal.returns-clause-front
returns-clause-front g c = λ cell history front back found cut legal is. front_passes g.A.Askers.asks cell history front back found cut legal is
