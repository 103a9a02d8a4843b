use Rattle.code_laws.proofs.Whole.{simulates, typed_stands}
use Rattle.code_laws.proofs.laws.compiled_code_asks_as_its_tree.Goals as goal

pub returns-clause-stands : goal.returns-clause-stands
returns-clause-stands c = λ tree orderly. simulates tree orderly

pub returns-clause-goes : goal.returns-clause-goes
returns-clause-goes c = λ signals cell number tree answers typed numbered labels fits. typed_stands signals cell number tree answers typed numbered labels fits
