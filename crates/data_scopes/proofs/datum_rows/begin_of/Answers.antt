use Rattle.data_scopes.proofs.Begins.{begin_of_form}
use Rattle.data_scopes.proofs.datum_rows.begin_of.Goals as goal

pub returns : goal.returns
returns c = begin_of_form c.args.value.now.at c.args.value.now.form
