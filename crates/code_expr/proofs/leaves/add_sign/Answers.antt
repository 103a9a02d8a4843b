use Rattle.std.proofs.lemmas.Result.{on_ok_weaker}
use Rattle.code_expr.proofs.Laid.{sign_laid}
use Rattle.code_expr.proofs.leaves.add_sign.Goals as goal

pub returns-then-minus : goal.returns-then-minus
returns-then-minus c = on_ok_weaker c.put.result (λ h own. sign_laid own c.args.minus c.if-minus.true (h own)) c.put.ensures
