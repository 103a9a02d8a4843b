use Rattle.code_laws.proofs.Parts.{expr_does}
use Rattle.code_laws.proofs.laws.expression_code_does_as_its_expression.Goals as goal

pub returns : goal.returns
returns c = λ tree code routine own pc e stack frame saved depth orderly has stands. expr_does tree code routine own pc e stack frame saved depth orderly has stands
