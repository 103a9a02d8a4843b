use Rattle.accepted_cells.proofs.Checking.{checked_is, code_suits}
use Rattle.accepted_cells.proofs.laws.accepted_trees_are_checked.Goals as goal

pub returns-clause-checked : goal.returns-clause-checked
returns-clause-checked c = checked_is

pub returns-clause-suits : goal.returns-clause-suits
returns-clause-suits c = code_suits
