use Rattle.accepted_cells.proofs.Cells.{made_right, made_typed}
use Rattle.accepted_cells.proofs.laws.made_cells_number_their_trees.Goals as goal

pub returns-clause-numbered : goal.returns-clause-numbered
returns-clause-numbered c = λ script trees made number tree is_script as_many is there named counted. made_right script trees made is number tree is_script as_many there named counted

pub returns-clause-typed : goal.returns-clause-typed
returns-clause-typed c = λ script trees made signals number before tree is there numbered typed. made_typed script trees made is signals number before tree there numbered typed
