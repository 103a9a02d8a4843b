use Rattle.std.proofs.lemmas.Result.{on_ok_weaker}
use Rattle.code_expr.proofs.Laid.{part_laid}
use Rattle.code_expr.proofs.leaves.add_part.Goals as goal

pub returns-in_default : goal.returns-in_default
returns-in_default c = on_ok_weaker c.put.result (λ h own. part_laid own c.args.part c.in_default.not-Whole (h own)) c.put.ensures
