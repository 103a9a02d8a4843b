use Rattle.std.proofs.Common.{sym}
use Rattle.expr_parser.proofs.Operands.{none_of, none_left}
use Rattle.expr_parser.proofs.operators.spells_truth.Goals as goal

pub returns-in_default : goal.returns-in_default
returns-in_default c =
    let not = c.in_default in
    sym (none_of _ _ _ not.not-True (none_of _ _ _ not.not-False (none_left _)))
