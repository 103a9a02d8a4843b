use Rattle.history_laws.proofs.Fitting.{legal_alone, legal_faultless, legal_spells}
use Rattle.history_laws.proofs.laws.printed_histories_are_read.Goals as goal

pub returns-clause-spelled : goal.returns-clause-spelled
returns-clause-spelled g c = λ cell history limits may legal ranges.
    legal_spells g.A.Askers.asks cell history (record { limits = limits; may = may; legal = legal; ranges = ranges })

pub returns-clause-alone : goal.returns-clause-alone
returns-clause-alone g c = λ cell history events fates limits may legal ranges other.
    legal_alone g.A.Askers.asks cell history events fates (record { limits = limits; may = may; legal = legal; ranges = ranges }) other

pub returns-clause-faultless : goal.returns-clause-faultless
returns-clause-faultless g c = λ cell history number limits may legal ranges fault.
    legal_faultless g.A.Askers.asks cell history number (record { limits = limits; may = may; legal = legal; ranges = ranges }) fault
