use Rattle.type_laws.proofs.ExpressionLaws.{typed_law}
use Rattle.type_laws.proofs.expressions.expressions_are_typed.Goals as goal

pub returns : goal.returns
returns c = typed_law
