use Rattle.history_audit.proofs.Fronts.{legal_has_none}
use Rattle.history_audit.proofs.OneAudit.{one_first}
use Rattle.history_audit.proofs.laws.first_wrong_is_one.Goals as goal

pub returns-clause-one : goal.returns-clause-one
returns-clause-one g c = λ cell history at other wrong cause one may first second. one_first g.A.Askers.asks cell history at other wrong cause one may first second

pub returns-clause-none : goal.returns-clause-none
returns-clause-none g c = λ cell history at wrong legal. legal_has_none g.A.Askers.asks cell history at wrong legal
