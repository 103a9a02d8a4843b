use Rattle.code_laws.proofs.Lives.{fits_code, fits_tree, live, stands}
use Rattle.code_laws.proofs.laws.compiled_code_is_live.Goals as goal

pub returns-clause-live : goal.returns-clause-live
returns-clause-live c = λ tree checked. live tree checked

pub returns-clause-fits : goal.returns-clause-fits
returns-clause-fits c = λ tree answers checked. (fits_tree tree answers checked, fits_code tree answers checked)

pub returns-clause-stands : goal.returns-clause-stands
returns-clause-stands c = λ tree answers checked fits. stands tree answers checked fits
