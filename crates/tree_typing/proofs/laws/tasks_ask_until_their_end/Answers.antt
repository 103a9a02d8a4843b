use Rattle.tree_typing.proofs.Until.{asks_on, fits_steps}
use Rattle.tree_typing.proofs.laws.tasks_ask_until_their_end.Goals as goal

pub returns-clause-fits : goal.returns-clause-fits
returns-clause-fits c = λ signals cell number tree mine typed numbered own fit. fits_steps signals cell number tree mine typed numbered own fit

pub returns-clause-asks : goal.returns-clause-asks
returns-clause-asks c = λ signals cell number tree mine typed numbered own fit going. asks_on signals cell number tree mine typed numbered own fit going
