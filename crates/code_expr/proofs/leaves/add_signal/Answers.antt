use Rattle.std.proofs.lemmas.Result.{on_ok_weaker}
use Rattle.code_expr.proofs.Follow.{follows_then}
use Rattle.code_expr.proofs.Laid.{input_laid, put_as, signal_laid}
use Rattle.code_expr.proofs.leaves.add_signal.Goals as goal

pub returns-in_ok-put-in-TestDI : goal.returns-in_ok-put-in-TestDI
returns-in_ok-put-in-TestDI c = on_ok_weaker c.put-in-TestDI-2.result (λ h own.
    input_laid own c.args.function c.args.signal c.in-TestDI.is
    (follows_then (c.in_ok-put.ensures own) (follows_then (put_as c.push.ensures (c.in_ok-put-in-TestDI.ensures own)) (h own)))) c.put-in-TestDI-2.ensures

pub returns-in_default : goal.returns-in_default
returns-in_default c = λ own. signal_laid own c.args.function c.args.signal c.in_default.not-TestDI (c.in_ok-put.ensures own)
