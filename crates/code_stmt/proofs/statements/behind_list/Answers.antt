use Rattle.std.proofs.Common.{◌+◌, ap, ◌∙◌}
use Rattle.std.proofs.lemmas.Result.{IfOk-weaker}
use Rattle.code_expr.specs.Adds.{end_of}
use Rattle.code_stmt.proofs.statements.behind_list.Goals as goal

pub returns : goal.returns
returns c = IfOk-weaker c.behind.result _ _ (λ place is size rest next.
    let taken = c.next.ensures size rest next in
    (is ∙ ap (λ n. end_of c.args.out.now.code + n) (c.in_ok-sum.ensures ∙ ap (λ n. n + c.args.others) taken.0), taken.1)) c.behind.ensures
