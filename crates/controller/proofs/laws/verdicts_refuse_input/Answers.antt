use Rattle.cell_loading.specs.declared.refused.Refused.TheVariants.{Write, Memory}
use Rattle.controller.proofs.Refusing.{refuses_input}
use Rattle.controller.proofs.laws.verdicts_refuse_input.Goals as goal

pub returns-clause-memory : goal.returns-clause-memory
returns-clause-memory c = λ words gave names a. refuses_input words gave names Memory a

pub returns-clause-write : goal.returns-clause-write
returns-clause-write c = λ words gave names a. refuses_input words gave names Write a
