use Rattle.std.proofs.Common.{sym, ◌∙◌}
use Rattle.type_laws.proofs.Steps.{done}
use Rattle.type_laws.proofs.ExpressionLaws.{typed_law}
use Rattle.type_laws.proofs.expressions.expressions_have_one_form.Goals as goal

pub returns : goal.returns
returns c = λ s e want t u is also. (done u t).0 (sym ((typed_law s e want u).1 also) ∙ (typed_law s e want t).1 is)
