use Rattle.tree_typing.proofs.Whole as whole
use Rattle.tree_typing.proofs.laws.well_typed_tasks_go_on.Goals as goal

pub returns-clause-goes : goal.returns-clause-goes
returns-clause-goes c = λ signals cell number tree answers typed numbered fits. whole.goes signals cell number tree answers typed numbered fits

pub returns-clause-typed : goal.returns-clause-typed
returns-clause-typed c = λ signals cell number tree answers d typed numbered is. whole.typed_data signals cell number tree answers d typed numbered is

pub returns-clause-asked : goal.returns-clause-asked
returns-clause-asked c = λ signals cell number tree answers request d typed numbered is. whole.asked signals cell number tree answers request d typed numbered is
