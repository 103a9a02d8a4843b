use Rattle.std.proofs.Common.{◌∙◌, ap, sym}
use Rattle.expr_types.specs.Calls.{first_need}
use Rattle.expr_types.specs.Views.{view_needs}
use Rattle.expr_types.proofs.needs.Needs.first.Goals as goal

pub returns-in-Predefined : goal.returns-in-Predefined
returns-in-Predefined c = c.first_predefined.ensures ∙ ap (λ n. first_need (view_needs n)) (sym c.in-Predefined.is)
