use Rattle.data_scopes.proofs.Rowed.{are_numbered}
use Rattle.data_scopes.proofs.laws.numbers_have_rows.Goals as goal

pub returns : goal.returns
returns c = λ modules signals axes names named. (are_numbered modules signals axes names named).rows
