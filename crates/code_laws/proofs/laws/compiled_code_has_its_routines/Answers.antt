use Rattle.code_laws.proofs.PartCompiles.{behind_stands, compiled_has, extended_has}
use Rattle.code_laws.proofs.laws.compiled_code_has_its_routines.Goals as goal

pub returns-clause-whole : goal.returns-clause-whole
returns-clause-whole c = λ tree orderly. compiled_has tree orderly

pub returns-clause-longer : goal.returns-clause-longer
returns-clause-longer c = λ tree more room orderly. extended_has tree more room orderly

pub returns-clause-behind : goal.returns-clause-behind
returns-clause-behind c = λ tree more room. behind_stands tree more room
