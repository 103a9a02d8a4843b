use Rattle.std.proofs.Common.{sym, ◌∙◌}
use Rattle.cell_state.proofs.Starting.{first_values}
use Rattle.cell_state.proofs.laws.first_state_has_first_values.Goals as goal

pub returns-clause-pers : goal.returns-clause-pers
returns-clause-pers c = λ cell trees state is. is.pers

pub returns-clause-data : goal.returns-clause-data
returns-clause-data c = λ cell trees state task tree here is there at. first_values tree here (sym (is.tasks task tree there) ∙ at)
