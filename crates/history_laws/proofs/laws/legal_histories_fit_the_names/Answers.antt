use Rattle.history_laws.proofs.Fitting.{legal_fits}
use Rattle.history_laws.proofs.laws.legal_histories_fit_the_names.Goals as goal

pub returns : goal.returns
returns g c = λ cell history limits may legal ranges. legal_fits g.A.Askers.asks cell history (record { limits = limits; may = may; legal = legal; ranges = ranges })
