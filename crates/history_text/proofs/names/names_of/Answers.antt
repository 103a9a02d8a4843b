use Rattle.history_text.proofs.NamesApart.{cell_is_named}
use Rattle.history_text.proofs.names.names_of.Goals as goal

pub returns-clause-named : goal.returns-clause-named
returns-clause-named c = cell_is_named c.args.cell.now c.steps-steps.ensures.limits
