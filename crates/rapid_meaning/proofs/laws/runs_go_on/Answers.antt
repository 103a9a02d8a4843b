use Rattle.rapid_meaning.proofs.Growth as growth
use Rattle.rapid_meaning.proofs.laws.runs_go_on.Goals as goal

pub returns-clause-goes_on : goal.returns-clause-goes_on
returns-clause-goes_on c = λ tree before a request d asks fits. growth.goes_on tree before a request d asks fits

pub returns-clause-refuses : goal.returns-clause-refuses
returns-clause-refuses c = λ tree before a request d asks fits. growth.refuses tree before a request d asks fits

pub returns-clause-stays_ended : goal.returns-clause-stays_ended
returns-clause-stays_ended c = λ tree before a d e. growth.stays_ended tree before a d e

pub returns-clause-stays_unfit : goal.returns-clause-stays_unfit
returns-clause-stays_unfit c = λ tree before a e. growth.stays_unfit tree before a e

pub returns-clause-stays_fit : goal.returns-clause-stays_fit
returns-clause-stays_fit c = λ tree answers fits. growth.fit_runs tree answers fits
