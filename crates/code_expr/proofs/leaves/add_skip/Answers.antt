use Rattle.std.proofs.lemmas.Result.{on_ok_weaker}
use Rattle.code_expr.proofs.Follow.{follows_then}
use Rattle.code_expr.proofs.leaves.add_skip.Goals as goal

pub returns : goal.returns
returns c = on_ok_weaker c.put-3.result (λ h own. follows_then (c.in_ok-put.ensures own) (follows_then (c.in_ok-put-2.ensures own) (h own))) c.put-3.ensures
